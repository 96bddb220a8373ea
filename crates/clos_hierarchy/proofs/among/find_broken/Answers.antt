use Rattle.std.proofs.Common.{Some, sym, ap, subst, ◌∙◌}
use Rattle.std.specs.Prelude.{option_copied}
use Rattle.clos_precedence.specs.PrecedenceView.{numbers}
use Rattle.clos_hierarchy.proofs.Broken.{NoneBut, first_left, none_left}
use Rattle.clos_hierarchy.proofs.among.find_broken.Goals as goal

pub returns-in-Some-broken_at-clause-fault : goal.returns-in-Some-broken_at-clause-fault
returns-in-Some-broken_at-clause-fault c = λ k o.
    first_left c.args.definitions.now c.args.kept.now c.in-Some.place.now.0 (numbers c.args.places.now) (numbers c.in-Some.others.now) c.in_ok-copy.field-0
    (subst (λ cs. NoneBut c.args.definitions.now c.args.kept.now (numbers c.args.places.now) (numbers cs)) c.in-Some.ensures.cases.0 c.loop-place.invariant)
    (sym c.broken_at.ensures ∙ ap option_copied c.in-Some-broken_at.is ∙ ap Some (sym c.in_ok-copy.ensures)) k o

pub returns-clause-ok : goal.returns-clause-ok
returns-clause-ok c = λ k o. none_left c.args.definitions.now c.args.kept.now (numbers c.args.places.now) c.loop-place.left.now c.loop-place.invariant c.in_default.ensures.cases k o
