use Rattle.std.proofs.Common.{◌∷◌, Some, map, ap, sym, ◌∙◌}
use Rattle.clos_forms.specs.Binding.{each}
use Rattle.clos_forms.specs.Fault.{◌>>=◌}
use Rattle.clos_forms.specs.NamedMethods.{method_in}
use Rattle.clos_forms.specs.NamedMethodsView.{named_of}
use Rattle.clos_forms.proofs.Parts.{after, refused, goes_on, ended}
use Rattle.clos_forms.proofs.named_methods.parse_each_method.Goals as goal

pub returns-in-None : goal.returns-in-None
returns-in-None c =
    refused (map named_of c.loop-first.methods.items) (each method_in c.loop-first.rest.now) (each method_in c.args.elements.now) c.loop-first.invariant
    (ap (each method_in) c.in-Some.ensures
    ∙ ap (λ o. o >>= λ x. each method_in c.in-Some.others.now >>= λ ys. Some (x ∷ ys)) (sym c.in-None.ensures))

pub loop-first-preserved : goal.loop-first-preserved
loop-first-preserved c =
    ap (λ xs. after (map named_of xs) (each method_in c.in-Some.others.now)) c.in_ok-push-in-Some-parse_method.ensures.items
    ∙ goes_on named_of c.loop-first.methods.items c.in-Some-parse_method.method (each method_in c.loop-first.rest.now) (each method_in c.in-Some.others.now)
    (each method_in c.args.elements.now) c.loop-first.invariant
    (ap (each method_in) c.in-Some.ensures
    ∙ ap (λ o. o >>= λ x. each method_in c.in-Some.others.now >>= λ ys. Some (x ∷ ys)) (sym c.in-Some-parse_method.ensures))

pub returns : goal.returns
returns c =
    ended (map named_of c.loop-first.methods.items) (each method_in c.loop-first.rest.now) (each method_in c.args.elements.now) c.loop-first.invariant
    (ap (each method_in) c.in_default.ensures)
