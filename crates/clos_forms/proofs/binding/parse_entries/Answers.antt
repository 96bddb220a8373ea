use Rattle.std.proofs.Common.{◌∷◌, Some, map, ap, sym, ◌∙◌}
use Rattle.clos_forms.specs.Binding.{each, binding_in}
use Rattle.clos_forms.specs.BindingView.{entry_of}
use Rattle.clos_forms.specs.Fault.{◌>>=◌}
use Rattle.clos_forms.proofs.Parts.{after, refused, goes_on, ended}
use Rattle.clos_forms.proofs.binding.parse_entries.Goals as goal

pub returns-in-None : goal.returns-in-None
returns-in-None c =
    refused (map entry_of c.loop-first.entries.items) (each binding_in c.loop-first.rest.now) (each binding_in c.args.elements.now) c.loop-first.invariant
    (ap (each binding_in) c.in-Some.ensures
    ∙ ap (λ o. o >>= λ x. each binding_in c.in-Some.others.now >>= λ ys. Some (x ∷ ys)) (sym c.in-None.ensures))

pub loop-first-preserved : goal.loop-first-preserved
loop-first-preserved c =
    ap (λ xs. after (map entry_of xs) (each binding_in c.in-Some.others.now)) c.in_ok-push-in-Some-parse_binding.ensures.items
    ∙ goes_on entry_of c.loop-first.entries.items c.in-Some-parse_binding.entry (each binding_in c.loop-first.rest.now) (each binding_in c.in-Some.others.now)
    (each binding_in c.args.elements.now) c.loop-first.invariant
    (ap (each binding_in) c.in-Some.ensures
    ∙ ap (λ o. o >>= λ x. each binding_in c.in-Some.others.now >>= λ ys. Some (x ∷ ys)) (sym c.in-Some-parse_binding.ensures))

pub returns : goal.returns
returns c =
    ended (map entry_of c.loop-first.entries.items) (each binding_in c.loop-first.rest.now) (each binding_in c.args.elements.now) c.loop-first.invariant
    (ap (each binding_in) c.in_default.ensures)
