use Rattle.std.proofs.Common.{arith, rules}
use Rattle.clos_watch.proofs.Handed.{index_get}
use Rattle.clos_watch.proofs.Telling.{has_room, taken, tells_last, tells_next, tells_past}
use Rattle.clos_watch.proofs.watchers.Watchers.tell_all.Goals as goal

pub tell-requires : goal.tell-requires
tell-requires g c =
    has_room _ _ _ _ _ _ c.loop-place.dependents c.in-Some.place.now c.in-Some.others.now c.index-dependents-place.result
    (taken _ _ _ _ _ _ c.loop-place.dependents c.loop-place.left.now c.in-Some.place.now c.in-Some.others.now c.loop-place.invariant
    c.in-Some.ensures.cases.0)
    c.if-place-dependents.true c.requires.room

pub loop-place-preserved-then-place-dependents : goal.loop-place-preserved-then-place-dependents
loop-place-preserved-then-place-dependents g c =
    tells_next _ _ _ _ _ _ c.loop-place.dependents c.in-Some.place.now c.in-Some.others.now
    (taken _ _ _ _ _ _ c.loop-place.dependents c.loop-place.left.now c.in-Some.place.now c.in-Some.others.now c.loop-place.invariant
    c.in-Some.ensures.cases.0) _ _
    c.if-place-dependents.true (index_get c.loop-place.dependents c.in-Some.place.now c.index-dependents-place.result
    c.if-place-dependents.true) (search rules) (search rules) (search rules)

pub loop-place-preserved : goal.loop-place-preserved
loop-place-preserved g c =
    tells_past _ _ _ _ _ _ c.loop-place.dependents c.in-Some.place.now c.in-Some.others.now
    (taken _ _ _ _ _ _ c.loop-place.dependents c.loop-place.left.now c.in-Some.place.now c.in-Some.others.now c.loop-place.invariant
    c.in-Some.ensures.cases.0)
    (λ l. omega (arith, l, c.if-place-dependents.false))

pub returns-clause-told : goal.returns-clause-told
returns-clause-told g c = λ p d e h i. (tells_last _ _ _ _ _ _ c.loop-place.dependents c.loop-place.left.now c.loop-place.invariant
    c.in_default.ensures.cases p d e h i).0

pub returns-clause-room : goal.returns-clause-room
returns-clause-room g c = λ p d e h i. (tells_last _ _ _ _ _ _ c.loop-place.dependents c.loop-place.left.now c.loop-place.invariant
    c.in_default.ensures.cases p d e h i).1
