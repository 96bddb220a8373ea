use Rattle.std.proofs.Common.{Err, None, subst, ◌≡◌}
use Rattle.clos_machine.specs.clos_world.Uses.{uses_of}
use Rattle.clos_machine.specs.clos_world.World.{seen}
use Rattle.clos_machine.specs.Machine.{Leads, inside}
use Rattle.clos_machine.specs.Uses.{KeptAfter}
use Rattle.clos_machine.specs.clos_meaning.Meaning.{meaning}
use Rattle.clos_machine.specs.clos_meaning.NextMethods.{next_called}
use Rattle.clos_machine.specs.clos_meaning.Uses.{after_notes}
use Rattle.clos_next_methods.specs.NextMethods.{Refuses, asked_of, refusal_of}
use Rattle.clos_next_methods.proofs.Nexting.{next_passes, next_refused, next_storage}
use Rattle.clos_next_methods.proofs.next_methods.call_next_given.Goals as goal

pub returns-in-Err-clause-leads : goal.returns-in-Err-clause-leads
returns-in-Err-clause-leads c =
    next_refused c.args.machine.now c.args.machine.now c.args.values (seen c.args.world.now) c.in-Err.stop (uses_of c.args.world.now) (uses_of c.permit.new.world)
    (subst (λ vs. Refuses (refusal_of (seen c.args.world.now) c.args.machine.now.context.running c.args.machine.now.context.call vs) (Err c.in-Err.stop)) c.as_slice.ensures c.in-Err.ensures.refuses)
    (subst (λ vs. KeptAfter {A = Unit {0}} (asked_of (seen c.args.world.now) c.args.machine.now.context.running c.args.machine.now.context.call vs) (Err c.in-Err.stop) (uses_of c.args.world.now) (uses_of c.permit.new.world))
    c.as_slice.ensures c.in-Err.ensures.kept)

pub returns-in_default-clause-leads : goal.returns-in_default-clause-leads
returns-in_default-clause-leads c =
    next_storage c.args.machine.now c.args.machine.now c.args.values (seen c.args.world.now) (uses_of c.args.world.now) (uses_of c.permit.new.world)
    (subst (λ vs. uses_of c.permit.new.world ≡ after_notes (asked_of (seen c.args.world.now) c.args.machine.now.context.running c.args.machine.now.context.call vs) (uses_of c.args.world.now))
    c.as_slice.ensures c.in-Ok.ensures.kept)

pub returns-in-Ok-new-clause-leads : goal.returns-in-Ok-new-clause-leads
returns-in-Ok-new-clause-leads c =
    next_passes c.args.machine.now c.run_next.new.machine c.args.values (seen c.args.world.now) c.run_next.result (uses_of c.args.world.now) (uses_of c.permit.new.world)
    (subst (λ vs. refusal_of (seen c.args.world.now) c.args.machine.now.context.running c.args.machine.now.context.call vs ≡ None) c.as_slice.ensures c.in-Ok.ensures.refuses)
    (subst (λ vs. uses_of c.permit.new.world ≡ after_notes (asked_of (seen c.args.world.now) c.args.machine.now.context.running c.args.machine.now.context.call vs) (uses_of c.args.world.now))
    c.as_slice.ensures c.in-Ok.ensures.kept)
    (subst (λ vs. Leads (inside c.args.machine.now (next_called (meaning c.args.machine.now.room) c.args.machine.now.context c.args.machine.now.context.running vs)) (seen c.args.world.now)
    c.run_next.result c.run_next.new.machine) c.in-Ok-new.ensures
    (subst (λ u. Leads (inside c.args.machine.now (next_called (meaning c.args.machine.now.room) c.args.machine.now.context c.args.machine.now.context.running c.in-Ok-new.arguments)) u
    c.run_next.result c.run_next.new.machine) c.permit.ensures.same c.run_next.ensures.leads))
