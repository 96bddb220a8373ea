use Rattle.std.proofs.Common.{ap, ◌∙◌}
use Rattle.clos_precedence.specs.Precedence.{has}
use Rattle.clos_precedence.specs.PrecedenceView.{numbers}
use Rattle.clos_precedence.proofs.Members.{has_first}
use Rattle.clos_hierarchy.proofs.Filled.{goes_on, it_was, it_was_not, place_there}
use Rattle.clos_hierarchy.proofs.fill.fill_forward.Goals as goal

pub fill_at-requires : goal.fill_at-requires
fill_at-requires c =
    place_there c.args.kept.now.items c.loop-place.kept.items (numbers c.args.places.now) c.in-Some.place.now.0 c.requires c.loop-place.invariant.0.others
    (c.loop-place.invariant.1 c.in-Some.place.now.0
    (ap (λ cs. has (numbers cs) c.in-Some.place.now.0) c.in-Some.ensures.cases.0 ∙ has_first c.in-Some.place.now.0 (numbers c.in-Some.others.now)))

pub loop-place-preserved-then-filled : goal.loop-place-preserved-then-filled
loop-place-preserved-then-filled c =
    goes_on c.loop-place.filled c.in_ok-more.more c.loop-place.filled c.args.definitions.now c.args.kept.now.items c.loop-place.kept.items c.fill_at.new.kept.items (numbers c.args.places.now)
    (numbers c.loop-place.left.now) (numbers c.in-Some.others.now) c.in-Some.place.now.0 c.loop-place.invariant c.in_ok-more.ensures.filled c.in_ok-more.ensures.others
    (λ n. ap (λ cs. has (numbers cs) n) c.in-Some.ensures.cases.0)
    (ap (λ cs. has (numbers cs) c.in-Some.place.now.0) c.in-Some.ensures.cases.0 ∙ has_first c.in-Some.place.now.0 (numbers c.in-Some.others.now))
    (it_was c.loop-place.filled c.in_ok-more.more c.if-filled.true)

pub loop-place-preserved : goal.loop-place-preserved
loop-place-preserved c =
    goes_on c.loop-place.filled c.in_ok-more.more c.in_ok-more.more c.args.definitions.now c.args.kept.now.items c.loop-place.kept.items c.fill_at.new.kept.items (numbers c.args.places.now)
    (numbers c.loop-place.left.now) (numbers c.in-Some.others.now) c.in-Some.place.now.0 c.loop-place.invariant c.in_ok-more.ensures.filled c.in_ok-more.ensures.others
    (λ n. ap (λ cs. has (numbers cs) n) c.in-Some.ensures.cases.0)
    (ap (λ cs. has (numbers cs) c.in-Some.place.now.0) c.in-Some.ensures.cases.0 ∙ has_first c.in-Some.place.now.0 (numbers c.in-Some.others.now))
    (it_was_not c.loop-place.filled c.in_ok-more.more c.if-filled.false)
