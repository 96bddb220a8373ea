use Rattle.std.proofs.Common.{◌≡◌, ap, refl, ℕ, List, Option, None, Some, ◌∙◌}
use Rattle.std.specs.Prelude.{option_map}
use Rattle.lisp_data.specs.Name.{Name}
use Rattle.lisp_data.specs.Value.{Val}
use Rattle.lisp_data.specs.ValueView.{value_of}
use Rattle.clos_machine.specs.clos_world.World.{Local, State, bound_as, seen}
use Rattle.clos_method.specs.declared.system.SystemFunction.TheVariants.{SlotMissing}
use Rattle.clos_machine.specs.Machine.{at}
use Rattle.clos_machine.specs.clos_meaning.Control.{keeping}
use Rattle.clos_machine.specs.clos_meaning.GenericCalls.{invoked}
use Rattle.clos_machine.specs.clos_meaning.Meaning.{meaning}
use Rattle.clos_machine.specs.clos_meaning.Outcome.{Eval, gave, then_do}
use Rattle.clos_machine.specs.clos_meaning.Slots.{missing_changed, slot_changed}
use Rattle.clos_objects_core.specs.Slots.{changed_arguments}
use Rattle.clos_objects_core.proofs.slots.change_missing.Goals as goal

-- what is called, by whether there is a new value
called : (ev : Eval) (i : ℕ) (name : Name) (x : Option Val) (w : State) (ls : List Local) (t : ℕ)
    → invoked ev SlotMissing (changed_arguments w i name x) (bound_as ls w) t ≡ missing_changed ev i name x (bound_as ls w) t
called ev i name None w ls t = refl
called ev i name (Some v) w ls t = refl

pub returns-in-Ok-clause-leads : goal.returns-in-Ok-clause-leads
returns-in-Ok-clause-leads c =
    c.invoke_under.ensures.leads
    (slot_changed (meaning c.args.machine.now.room) c.args.machine.now.context c.args.id.0 c.args.name.now (option_map value_of c.args.value) (value_of c.args.given) None)
    (seen c.args.world.now) refl
    (λ t. ap (λ fs. then_do (invoked (meaning c.args.machine.now.room) SlotMissing c.in-Ok.arguments (at c.args.machine.now (seen c.args.world.now)) t)
    (λ u. keeping (meaning c.args.machine.now.room) c.args.machine.now.context fs (value_of c.args.given))) c.new.ensures
    ∙ ap (λ vs. then_do (invoked (meaning c.args.machine.now.room) SlotMissing vs (at c.args.machine.now (seen c.args.world.now)) t) (λ u. gave (value_of c.args.given))) c.in-Ok.ensures
    ∙ ap (λ o. then_do o (λ u. gave (value_of c.args.given)))
    (called (meaning c.args.machine.now.room) c.args.id.0 c.args.name.now (option_map value_of c.args.value) (seen c.args.world.now) c.args.machine.now.locals t))
