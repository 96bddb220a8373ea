use Rattle.std.proofs.Common.{◌≡◌, [], ◌∷◌, true, subst, sym, ◌∙◌}
use Rattle.lisp_data.specs.ValueView.{value_of}
use Rattle.clos_method.specs.Applicable.{has_eql}
use Rattle.clos_method.specs.MethodIds.{method_numbers}
use Rattle.clos_generic.proofs.EqlNoted.{one_has}
use Rattle.clos_generic.proofs.table.Generics.latest_has_eql.Goals as goal

pub returns-then-has : goal.returns-then-has
returns-then-has c = λ h.
    one_has c.args.self.now.table.methods c.in-Some.id.0 (method_numbers c.args.function.now.methods.items) c.args.place c.args.object.now
    (c.has.ensures c.if-has.true)
    (subst (λ ms. has_eql ms (c.in-Some.id.0 ∷ []) c.args.place (value_of c.args.object.now) ≡ true) c.methods.ensures (sym c.has_eql.ensures ∙ h))
