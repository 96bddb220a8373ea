use Rattle.std.proofs.Common.{ap, ◌∙◌}
use Rattle.std.specs.Prelude.{slice_get}
use Rattle.std.specs.Map.{lookup}
use Rattle.lisp_data.specs.Name.{same_name}
use Rattle.clos_store.proofs.Slots.{slot_there}
use Rattle.clos_store.proofs.instance.Instance.slot.Goals as goal

pub returns-in-Some : goal.returns-in-Some
returns-in-Some c =
    c.slot_at.ensures ∙ ap (λ d. slice_get d c.in-Some.place) c.deref.ensures.value ∙ slot_there c.self.inside.layout.locals c.self.inside.slots.items c.args.name.now c.in-Some.place c.self.invariant
    c.in-Some.ensures
    ∙ ap (λ o. lookup (same_name c.args.name.now) o.slots) c.self.view_is
