use Rattle.std.proofs.Common.{ap, ◌∙◌}
use Rattle.std.specs.Prelude.{option_map}
use Rattle.lisp_data.specs.ValueView.{value_of}
use Rattle.clos_machine.specs.clos_world.clos_store.Store.{slot_found}
use Rattle.clos_machine.specs.clos_world.World.{seen}
use Rattle.clos_machine.proofs.clos_meaning.clos_world.Kept.{same_classes}
use Rattle.clos_objects_core.proofs.Placing.{change_missing, change_no_step, none_found, some_found}
use Rattle.clos_objects_core.proofs.slots.change.Goals as goal

pub returns-then-is_none-clause-turns : goal.returns-then-is_none-clause-turns
returns-then-is_none-clause-turns c =
    change_missing c.args.machine.now c.change_missing.new.machine c.args.id c.args.name (option_map value_of c.args.value) (value_of c.args.given) (seen c.args.world.now) c.args.steps.now c.change_missing.result
    (none_found (λ s. s.now) c.slot.result (slot_found (seen c.args.world.now).store c.args.id.0 c.args.name) (c.slot.ensures ∙ ap (λ w. slot_found w c.args.id.0 c.args.name) c.store.ensures) c.if-is_none.ensures) c.change_missing.ensures.leads

pub returns-then-steps-eq0-clause-turns : goal.returns-then-steps-eq0-clause-turns
returns-then-steps-eq0-clause-turns c =
    let y = some_found (λ s. s.now) c.slot.result (slot_found (seen c.args.world.now).store c.args.id.0 c.args.name) (c.slot.ensures ∙ ap (λ w. slot_found w c.args.id.0 c.args.name) c.store.ensures) c.if-is_none.ensures in
    change_no_step c.args.machine.now c.args.machine.now c.args.id c.args.name (option_map value_of c.args.value) (value_of c.args.given) y.0 (seen c.args.world.now) c.args.steps.now
    c.plain.result y.1 c.if-steps-eq0.true c.plain.ensures

pub invariant_of-world : goal.invariant_of-world
invariant_of-world c = record {
  kept = same_classes c.args.world.now.generics.table c.args.world.now.combinations c.args.world.now.cache c.args.world.now.objects.classes
      c.set_slot.new.self.classes (ap (λ o. o.classes) c.set_slot.ensures) c.args.world.now.kept;
}
