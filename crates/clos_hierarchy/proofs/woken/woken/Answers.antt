use Rattle.std.proofs.Common.{[], ◌∷◌, ap, ◌≤◌, length, arith, true≢false, subst, sym, ◌∙◌}
use Rattle.clos_precedence.specs.PrecedenceView.{numbers}
use Rattle.clos_hierarchy.specs.inner.KeptView.{listing_at}
use Rattle.clos_hierarchy.specs.inner.Waking.{Wakes}
use Rattle.clos_hierarchy.specs.inner.Woken.{is_ready}
use Rattle.clos_hierarchy.proofs.Waking.{Waking, never_more, waking_done, waking_next, waking_none, waking_one, waking_waited}
use Rattle.clos_hierarchy.proofs.woken.woken.Goals as goal
use Rattle.clos_hierarchy.proofs.woken.woken.Goals.{then-is_lacking+then-is_ready+in_ok-add, else-is_lacking, else-is_lacking-via-then-is_lacking+else-is_ready, else-is_lacking-via-else-is_lacking}

pub loop-place-init : goal.loop-place-init
loop-place-init c =
    elim c.if-is_lacking.branch [
      | then-is_lacking+then-is_ready+in_ok-add w ↦
          subst (λ v. Waking c.args.definitions.now (listing_at c.args.kept.now) c.args.direct.now c.args.class.0 v 0) (sym (w.woken-is ∙ w.in_ok-add.ensures.ok ∙ ap (λ v. c.args.class.0 ∷ v) c.new-woken.ensures))
          (waking_one c.args.definitions.now (listing_at c.args.kept.now) c.args.direct.now c.args.class.0 (sym c.is_lacking.ensures ∙ w.if-is_lacking.true)
          (ap (λ v. is_ready c.args.definitions.now (listing_at c.args.kept.now) v c.args.class.0) (sym c.new-woken.ensures) ∙ sym w.is_ready.ensures ∙ w.if-is_ready.true))
      | else-is_lacking w ↦
          subst (λ v. Waking c.args.definitions.now (listing_at c.args.kept.now) c.args.direct.now c.args.class.0 v 0) (sym (w.woken-is ∙ c.new-woken.ensures))
          (waking_none c.args.definitions.now (listing_at c.args.kept.now) c.args.direct.now c.args.class.0
          (elim w.else-is_lacking.branch [
            | else-is_lacking-via-then-is_lacking+else-is_ready v ↦ λ l. ap (λ u. is_ready c.args.definitions.now (listing_at c.args.kept.now) u c.args.class.0) (sym c.new-woken.ensures) ∙ sym v.is_ready.ensures ∙ v.if-is_ready.false
            | else-is_lacking-via-else-is_lacking v ↦ λ l. absurd (true≢false (sym l ∙ sym c.is_lacking.ensures ∙ v.if-is_lacking.false))
          ]))
    ]

pub loop-place-smaller : goal.loop-place-smaller
loop-place-smaller c =
    let l : length c.loop-place.woken ≤ length c.args.definitions.now.names =
    never_more c.args.definitions.now (listing_at c.args.kept.now) c.args.direct.now c.args.class.0 c.loop-place.woken c.loop-place.place c.loop-place.invariant in
    omega (arith, l, c.loop-place-test.true, c.len.ensures)

pub loop-place-preserved : goal.loop-place-preserved
loop-place-preserved c =
    waking_next c.args.definitions.now (listing_at c.args.kept.now) c.args.direct.now c.args.class.0 c.loop-place.woken c.wake.new.woken c.loop-place.place c.at-next.result.0 c.loop-place.invariant
    (omega (arith, c.loop-place-test.true, c.len.ensures)) c.at-next.ensures
    (subst (λ v. Wakes c.args.definitions.now (listing_at c.args.kept.now) v [] c.loop-place.woken c.wake.new.woken) c.below.ensures c.in_ok-wake.ensures)

pub returns-clause-within : goal.returns-clause-within
returns-clause-within c = λ n h.
    (waking_waited c.args.definitions.now (listing_at c.args.kept.now) c.args.direct.now c.args.class.0 c.loop-place.woken (numbers c.into_list.result.items) c.loop-place.place c.loop-place.invariant c.into_list.ensures n h).0

pub returns-clause-waited : goal.returns-clause-waited
returns-clause-waited c = λ n h.
    (waking_waited c.args.definitions.now (listing_at c.args.kept.now) c.args.direct.now c.args.class.0 c.loop-place.woken (numbers c.into_list.result.items) c.loop-place.place c.loop-place.invariant c.into_list.ensures n h).1

pub returns-clause-all : goal.returns-clause-all
returns-clause-all c =
    waking_done c.args.definitions.now (listing_at c.args.kept.now) c.args.direct.now c.args.class.0 c.loop-place.woken (numbers c.into_list.result.items) c.loop-place.place c.loop-place.invariant c.into_list.ensures
    (omega (arith, c.loop-place-test.false, c.len.ensures))
