use Rattle.std.proofs.Common.{ap, sym, ◌∙◌, []}
use Rattle.clos_machine.specs.clos_world.World.{unbound}
use Rattle.clos_machine.specs.clos_world.declared.condition.ConditionKind.TheVariants.{ProgramError}
use Rattle.clos_machine.specs.Machine.{access_of, at, inside, resume}
use Rattle.clos_machine.specs.clos_meaning.Meaning.{changed_place, closed, meaning}
use Rattle.clos_machine.specs.clos_meaning.Outcome.{Stopped}
use Rattle.clos_machine.specs.declared.machine.Machine.{Machine}
use Rattle.clos_machine.proofs.Turns.{stopped_through}
use Rattle.clos_places.proofs.places.change_place.Goals as goal

pub returns-in-None-clause-leads : goal.returns-in-None-clause-leads
returns-in-None-clause-leads c = λ run w h t.
    let m : Machine = c.args.machine.now in
    sym (ap (λ o. closed (resume m.levels m.context o)) (h t))
    ∙ ap (λ vs. inside m (changed_place (meaning m.room) m.context c.args.primitive (access_of c.args.target) vs) w t) c.in-None.ensures
    ∙ stopped_through m.levels m.context (record { kind = ProgramError; items = [] }) (at m w) t
    ∙ ap (λ x. Stopped x (unbound w) t) (sym c.plain.ensures)
