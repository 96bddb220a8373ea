use Rattle.std.proofs.Common.{◌∷◌, Some, map, ap, sym, ◌∙◌}
use Rattle.lisp_data.specs.Datum.{cons}
use Rattle.lisp_data.specs.DatumView.{datum_of}
use Rattle.clos_forms.specs.Binding.{assignments_in, entry}
use Rattle.clos_forms.specs.BindingView.{entry_of}
use Rattle.clos_forms.specs.Fault.{◌>>=◌}
use Rattle.clos_forms.proofs.Parts.{after, refused, goes_on, ended}
use Rattle.clos_forms.proofs.binding.parse_assignments.Goals as goal

pub returns-in-None : goal.returns-in-None
returns-in-None c =
    refused (map entry_of c.loop-variable.entries.items) (assignments_in c.loop-variable.rest.now) (assignments_in c.args.elements.now)
    c.loop-variable.invariant
    (ap assignments_in c.in-Some.ensures ∙ ap (λ l. assignments_in (cons (datum_of c.in-Some.variable.now) l)) c.in-None.ensures)

pub returns-in-None-variable_name : goal.returns-in-None-variable_name
returns-in-None-variable_name c =
    refused (map entry_of c.loop-variable.entries.items) (assignments_in c.loop-variable.rest.now) (assignments_in c.args.elements.now)
    c.loop-variable.invariant
    (ap assignments_in c.in-Some.ensures ∙ ap (λ l. assignments_in (cons (datum_of c.in-Some.variable.now) l)) c.in-Some-split_first.ensures
    ∙ ap (λ o. o >>= λ n. assignments_in c.in-Some-split_first.others.now >>= λ es. Some (entry n (Some (datum_of c.in-Some-split_first.value.now)) ∷ es))
    (sym c.in-None-variable_name.ensures))

pub loop-variable-preserved : goal.loop-variable-preserved
loop-variable-preserved c =
    ap (λ xs. after (map entry_of xs) (assignments_in c.in-Some-split_first.others.now)) c.in_ok-push-in-Some-variable_name.ensures.items
    ∙ goes_on entry_of c.loop-variable.entries.items (record { name = c.in-Some-variable_name.name; init = Some c.in-Some-split_first.value })
    (assignments_in c.loop-variable.rest.now) (assignments_in c.in-Some-split_first.others.now) (assignments_in c.args.elements.now) c.loop-variable.invariant
    (ap assignments_in c.in-Some.ensures ∙ ap (λ l. assignments_in (cons (datum_of c.in-Some.variable.now) l)) c.in-Some-split_first.ensures
    ∙ ap (λ o. o >>= λ n. assignments_in c.in-Some-split_first.others.now >>= λ es. Some (entry n (Some (datum_of c.in-Some-split_first.value.now)) ∷ es))
    (sym c.in-Some-variable_name.ensures))

pub returns : goal.returns
returns c =
    ended (map entry_of c.loop-variable.entries.items) (assignments_in c.loop-variable.rest.now) (assignments_in c.args.elements.now) c.loop-variable.invariant
    (ap assignments_in c.in_default.ensures)
