use Rattle.std.proofs.Common.{◌≡◌, false, ap, sym, ◌∙◌, slice_get, subst}
use Rattle.lisp_data.specs.ValueView.{value_of}
use Rattle.clos_generic.specs.Calls.{has_eql}
use Rattle.clos_generic.specs.inner.EqlObjects.{is_noted_in}
use Rattle.clos_generic.proofs.EqlNoted.{no_eql}
use Rattle.clos_generic.proofs.table.Generics.may_have_eql.Goals as goal

pub returns : goal.returns
returns c = λ h.
    let w = c.self.inside in
    let o : is_noted_in (slice_get w.functions.items c.args.id.0) c.args.place c.args.object.now ≡ false =
    ap (λ fs. is_noted_in (slice_get fs c.args.id.0) c.args.place c.args.object.now) (sym c.deref.ensures.value) ∙ c.may_have_eql.ensures h in
    subst (λ t. has_eql t.table c.args.id.0 c.args.place (value_of c.args.object.now) ≡ false) c.self.view_is
    (no_eql w.functions.items w.methods.items c.args.id.0 c.args.place c.args.object.now c.self.invariant.6 o)
