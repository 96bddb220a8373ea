use Rattle.clos_machine.specs.Machine.{slots_left, subject_of}
use Rattle.std.proofs.Common.{ap, drop}
use Rattle.lisp_data.specs.ValueView.{value_of}
use Rattle.clos_machine.specs.clos_world.World.{seen}
use Rattle.clos_machine.proofs.clos_meaning.clos_world.Kept.{same_classes}
use Rattle.clos_filling.proofs.Passing.{first_no_step}
use Rattle.clos_filling.proofs.filling.fill_first.Goals as goal

pub returns-then-steps-eq0-clause-turns : goal.returns-then-steps-eq0-clause-turns
returns-then-steps-eq0-clause-turns c =
    first_no_step c.args.machine.now (subject_of c.args.filling.value) c.args.machine.now (slots_left c.args.filling.value) c.in-Some.slot.now (drop c.in-Some.next c.args.filling.value.effective.slots)
    (value_of c.args.value) c.plain.result (seen c.args.world.now) c.args.steps.now (rw c.deref.ensures at c.in-Some.ensures) c.if-steps-eq0.true c.plain.ensures

pub invariant_of-world : goal.invariant_of-world
invariant_of-world c = record {
  kept = same_classes c.args.world.now.generics.table c.args.world.now.combinations c.args.world.now.cache c.args.world.now.objects.classes
      c.set_slot.new.self.classes (ap (λ o. o.classes) c.set_slot.ensures) c.args.world.now.kept;
}
