use Rattle.std.proofs.Common.{◌≡◌, [], ap, subst, ◌∙◌}
use Rattle.std.specs.Prelude.{option_map}
use Rattle.clos_machine.specs.clos_world.World.{bound_as, seen}
use Rattle.clos_machine.specs.Machine.{denote, initargs_in, inside, names_in, resume, slots_left, subject_of}
use Rattle.clos_machine.specs.clos_meaning.Meaning.{closed, meaning}
use Rattle.clos_machine.specs.clos_meaning.SystemMethods.{class_in, filled_as}
use Rattle.clos_machine.specs.clos_meaning.Bodies.{restoring}
use Rattle.clos_machine.specs.clos_meaning.Contexts.{known}
use Rattle.clos_machine.specs.clos_meaning.Filling.{fill}
use Rattle.clos_machine.specs.clos_meaning.Outcome.{then_do}
use Rattle.clos_machine.specs.declared.machine.Doing.TheVariants.{Tend}
use Rattle.clos_machine.specs.declared.machine.InstanceTask.TheVariants.{Fill}
use Rattle.clos_machine.specs.declared.machine.Machine.{Machine}
use Rattle.clos_objects.proofs.Methods.{no_class_to_fill}
use Rattle.clos_objects.proofs.system_methods.fill_instance.Goals as goal

pub returns-in-None-clause-leads : goal.returns-in-None-clause-leads
returns-in-None-clause-leads c =
    no_class_to_fill c.args.machine.now c.args.machine.now (seen c.args.world.now) (meaning c.args.machine.now.room) c.args.id.0 (names_in c.args.arguments.now) (initargs_in c.args.arguments.now)
    c.plain.result (subst (λ o. option_map (λ p. (p.0.0, p.1)) o ≡ class_in (seen c.args.world.now) c.args.id.0) c.in-None.is c.in_ok-class_in.ensures) c.plain.ensures

pub returns-in-Ok-clause-leads : goal.returns-in-Ok-clause-leads
returns-in-Ok-clause-leads c = λ t.
    let m : Machine = c.args.machine.now in
    ap (λ x. denote x (Tend (Fill c.in-Ok.filling)) (seen c.args.world.now) t) c.in_ok-enter-in-Some.ensures
    ∙ ap (λ f. closed (resume m.levels m.context (then_do (fill (meaning m.room) (known []) (subject_of f) (slots_left f) (bound_as [] (seen c.args.world.now)) t) (restoring m.locals)))) c.in-Ok.ensures.ok
    ∙ ap (λ a. closed (resume m.levels m.context (then_do (fill (meaning m.room) (known []) (record { instance = c.args.id.0; class = c.in-Some.class.0; names = names_in a; initargs = initargs_in a }) c.in-Some.effective.slots (bound_as [] (seen c.args.world.now)) t) (restoring m.locals)))) c.in_ok-copy-in-Some.ensures
    ∙ ap (λ o. inside m (filled_as (meaning m.room) c.args.id.0 (names_in c.args.arguments.now) (initargs_in c.args.arguments.now) o) (seen c.args.world.now) t)
    (subst (λ o. option_map (λ p. (p.0.0, p.1)) o ≡ class_in (seen c.args.world.now) c.args.id.0) c.in-Some.is c.in_ok-class_in.ensures)
