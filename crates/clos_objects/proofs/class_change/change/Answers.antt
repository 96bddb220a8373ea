use Rattle.std.proofs.Common.{◌-◌, ap, arith}
use Rattle.clos_machine.specs.clos_world.World.{seen}
use Rattle.clos_machine.specs.clos_meaning.Meaning.{meaning}
use Rattle.clos_machine.specs.declared.machine.Machine.{Machine}
use Rattle.clos_machine.proofs.clos_meaning.clos_world.Kept.{same_classes, same_either_way}
use Rattle.clos_objects.proofs.Changing.{change_made, change_no_step}
use Rattle.clos_objects.proofs.class_change.change.Goals as goal

pub returns-then-steps-eq0-clause-turns : goal.returns-then-steps-eq0-clause-turns
returns-then-steps-eq0-clause-turns c =
    change_no_step c.args.machine.now c.args.machine.now (meaning c.args.machine.now.room) c.args.id.0 c.args.class.0 c.args.initargs (seen c.args.world.now) c.args.steps.now
    c.args.layout.now c.plain.result c.if-steps-eq0.true c.plain.ensures

pub returns-clause-turns : goal.returns-clause-turns
returns-clause-turns c =
    let m : Machine = c.args.machine.now in
    change_made m (record m { levels = c.push.new.self }) c.args.id c.args.copy c.args.class.0 c.args.layout.now c.new.result c.args.initargs c.in_ok-arguments.arguments
    (seen c.args.world.now) (record (seen c.args.world.now) { classes = c.change.new.self.classes; store = c.change.new.self.contents }) c.args.steps.now (c.args.steps.now - 1)
    (ap (λ ls. record m { levels = ls }) c.in_ok-push.ensures.ok) c.new.ensures c.requires.next c.in_ok-arguments.ensures (omega (arith, c.if-steps-eq0.false))
    (ap (λ o. record (seen c.args.world.now) { classes = o.classes; store = o.contents }) c.in-Ok.ensures.ok.1)

pub invariant_of-world : goal.invariant_of-world
invariant_of-world c = record {
  kept = same_classes c.args.world.now.generics.table c.args.world.now.combinations c.args.world.now.cache c.args.world.now.objects.classes
      c.change.new.self.classes
      (same_either_way c.change.new.self.classes c.args.world.now.objects.classes c.change.result c.change.ensures.ok c.change.ensures.err
      (λ p. ap (λ o. o.classes) p.1) (ap (λ o. o.classes)))
      c.args.world.now.kept;
}
