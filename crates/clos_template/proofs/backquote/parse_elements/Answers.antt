use Rattle.std.proofs.Common.{◌∷◌, Some, map, ap, sym, ◌∙◌}
use Rattle.clos_forms.specs.Binding.{each}
use Rattle.clos_template.specs.Backquote.{element_in}
use Rattle.clos_template.specs.BackquoteView.{element_of}
use Rattle.clos_forms.specs.Fault.{◌>>=◌}
use Rattle.clos_forms.proofs.Parts.{after, refused, goes_on, ended}
use Rattle.clos_template.proofs.backquote.parse_elements.Goals as goal

pub returns-in-None : goal.returns-in-None
returns-in-None c =
    refused (map element_of c.loop-first.parsed.items) (each element_in c.loop-first.rest.now) (each element_in c.args.elements.now) c.loop-first.invariant
    (ap (each element_in) c.in-Some.ensures
    ∙ ap (λ o. o >>= λ x. each element_in c.in-Some.others.now >>= λ ys. Some (x ∷ ys)) (sym c.in-None.ensures))

pub loop-first-preserved : goal.loop-first-preserved
loop-first-preserved c =
    ap (λ xs. after (map element_of xs) (each element_in c.in-Some.others.now)) c.in_ok-push-in-Some-parse_element.ensures.items
    ∙ goes_on element_of c.loop-first.parsed.items c.in-Some-parse_element.element (each element_in c.loop-first.rest.now) (each element_in c.in-Some.others.now)
    (each element_in c.args.elements.now) c.loop-first.invariant
    (ap (each element_in) c.in-Some.ensures
    ∙ ap (λ o. o >>= λ x. each element_in c.in-Some.others.now >>= λ ys. Some (x ∷ ys)) (sym c.in-Some-parse_element.ensures))

pub returns : goal.returns
returns c =
    ended (map element_of c.loop-first.parsed.items) (each element_in c.loop-first.rest.now) (each element_in c.args.elements.now) c.loop-first.invariant
    (ap (each element_in) c.in_default.ensures)
