use Rattle.std.proofs.Common.{◌≡◌, None, ap, subst, sym, ◌∙◌}
use Rattle.clos_machine.specs.clos_world.World.{seen}
use Rattle.clos_machine.specs.clos_meaning.Updating.{due, updated}
use Rattle.clos_machine.specs.Machine.{Turns, here, slot_visited}
use Rattle.clos_machine.proofs.Updates.{turns_due}
use Rattle.clos_objects_core.proofs.slots.visit.Goals as goal

pub returns-in-None-clause-turns : goal.returns-in-None-clause-turns
returns-in-None-clause-turns c =
    turns_due c.args.machine.now c.visit_slot.new.machine (λ ev env. slot_visited ev env c.args.id.0 c.args.visit) c.args.id.0 None (seen c.args.world.now) c.args.steps.now
    c.visit_slot.result (seen c.visit_slot.new.world) c.visit_slot.new.steps (subst (λ o. o ≡ due (seen c.args.world.now) c.args.id.0) c.in-None.is c.in-Ok.ensures.value)
    (subst (λ w. Turns (here c.args.machine.now (λ ev env. slot_visited ev env c.args.id.0 c.args.visit)) w c.args.steps.now c.visit_slot.result c.visit_slot.new.machine (seen c.visit_slot.new.world)
    c.visit_slot.new.steps) c.in-Ok.ensures.same c.visit_slot.ensures.turns)

pub update-requires : goal.update-requires
update-requires c =
    ap (λ w. due w c.args.id.0) c.in-Ok.ensures.same ∙ sym c.in-Ok.ensures.value ∙ c.in-Some.is

pub returns-in-Some-clause-turns : goal.returns-in-Some-clause-turns
returns-in-Some-clause-turns c =
    subst (λ w. Turns (here c.args.machine.now (λ ev env. updated ev c.args.id.0 (slot_visited ev env c.args.id.0 c.args.visit))) w c.args.steps.now c.update.result c.update.new.machine
    (seen c.update.new.world) c.update.new.steps) c.in-Ok.ensures.same c.update.ensures.turns
