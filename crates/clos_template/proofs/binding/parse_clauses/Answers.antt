use Rattle.std.proofs.Common.{◌∷◌, Some, map, ap, sym, ◌∙◌}
use Rattle.clos_forms.specs.Binding.{each}
use Rattle.clos_template.specs.Shape.{clause_in}
use Rattle.clos_template.specs.BindingView.{clause_of}
use Rattle.clos_forms.specs.Fault.{◌>>=◌}
use Rattle.clos_forms.proofs.Parts.{after, refused, goes_on, ended}
use Rattle.clos_template.proofs.binding.parse_clauses.Goals as goal

pub returns-in-None : goal.returns-in-None
returns-in-None c =
    refused (map clause_of c.loop-first.clauses.items) (each clause_in c.loop-first.rest.now) (each clause_in c.args.elements.now) c.loop-first.invariant
    (ap (each clause_in) c.in-Some.ensures
    ∙ ap (λ o. o >>= λ x. each clause_in c.in-Some.others.now >>= λ ys. Some (x ∷ ys)) (sym c.in-None.ensures))

pub loop-first-preserved : goal.loop-first-preserved
loop-first-preserved c =
    ap (λ xs. after (map clause_of xs) (each clause_in c.in-Some.others.now)) c.in_ok-push-in-Some-parse_clause.ensures.items
    ∙ goes_on clause_of c.loop-first.clauses.items c.in-Some-parse_clause.clause (each clause_in c.loop-first.rest.now) (each clause_in c.in-Some.others.now)
    (each clause_in c.args.elements.now) c.loop-first.invariant
    (ap (each clause_in) c.in-Some.ensures
    ∙ ap (λ o. o >>= λ x. each clause_in c.in-Some.others.now >>= λ ys. Some (x ∷ ys)) (sym c.in-Some-parse_clause.ensures))

pub returns : goal.returns
returns c =
    ended (map clause_of c.loop-first.clauses.items) (each clause_in c.loop-first.rest.now) (each clause_in c.args.elements.now) c.loop-first.invariant
    (ap (each clause_in) c.in_default.ensures)
