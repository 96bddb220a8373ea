use Rattle.std.proofs.Common.{ap, sym, ◌∙◌}
use Rattle.std.specs.List.{find}
use Rattle.std.specs.Option.{option_and_then}
use Rattle.std.specs.Prelude.{slice_get}
use Rattle.lisp_data.specs.Name.{same_name}
use Rattle.clos_class.proofs.Looked.{read, slot_at}
use Rattle.clos_class.proofs.effective.Effective.slot.Goals as goal

pub returns-in-None : goal.returns-in-None
returns-in-None c =
    ap (option_and_then (slice_get c.self.inside.slots)) (sym c.in-None.is ∙ c.place_of.ensures)
    ∙ slot_at c.args.name.now c.self.inside.names c.self.inside.slots c.self.invariant
    ∙ ap (λ v. find (λ s. same_name c.args.name.now s.name) v.slots) c.self.view_is

pub returns-in-Some : goal.returns-in-Some
returns-in-Some c =
    read c.as_slice.result.now c.in-Some.place c.get.result c.get.ensures.lookup.0 c.get.ensures.lookup.1
    ∙ ap (λ ss. slice_get ss c.in-Some.place) c.as_slice.ensures
    ∙ ap (option_and_then (slice_get c.self.inside.slots)) (sym c.in-Some.is ∙ c.place_of.ensures)
    ∙ slot_at c.args.name.now c.self.inside.names c.self.inside.slots c.self.invariant
    ∙ ap (λ v. find (λ s. same_name c.args.name.now s.name) v.slots) c.self.view_is
