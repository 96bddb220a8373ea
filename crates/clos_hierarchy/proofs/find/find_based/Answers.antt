use Rattle.std.proofs.Common.{subst}
use Rattle.clos_hierarchy.specs.inner.Kept.{IsSingle}
use Rattle.clos_precedence.specs.PrecedenceView.{numbers}
use Rattle.clos_hierarchy.specs.inner.KeptView.{listing_of, listing_at}
use Rattle.clos_hierarchy.proofs.Single.{one_based}
use Rattle.clos_hierarchy.proofs.find.find_based.Goals as goal

pub returns-in-Some-clause-found : goal.returns-in-Some-clause-found
returns-in-Some-clause-found c =
    one_based c.args.kept.now c.args.class.0 (listing_of c.in_ok-found.found) (numbers c.in-Some.above.now) (numbers c.args.direct.items)
    (subst (λ v. IsSingle (listing_at c.args.kept.now) c.args.class.0 (numbers v) (numbers c.in-Some.above.now)) c.as_slice.ensures.value c.in-Some.ensures) c.in_ok-found.ensures.found

pub returns-clause-found : goal.returns-clause-found
returns-clause-found c = c.in_ok-found-2.ensures.found
