use Rattle.std.proofs.Common.{true≢false, subst, sym, ◌∙◌}
use Rattle.clos_hierarchy.specs.inner.KeptView.{listing_at}
use Rattle.clos_hierarchy.specs.inner.Waking.{Wakes}
use Rattle.clos_hierarchy.proofs.Waking.{wakes_skip, wakes_take}
use Rattle.clos_hierarchy.proofs.woken.wake.Goals as goal
use Rattle.clos_hierarchy.proofs.woken.wake.Goals.{else-is_lacking-via-then-is_lacking+else-is_ready, else-is_lacking-via-else-is_lacking}

pub loop-number-preserved-in_ok-add_new : goal.loop-number-preserved-in_ok-add_new
loop-number-preserved-in_ok-add_new c =
    wakes_take c.args.definitions.now (listing_at c.args.kept.now) c.args.classes.now c.in-Some.others.now c.args.woken.now c.loop-number.woken c.add_new.new.self c.in-Some.number.now
    (subst (λ v. Wakes c.args.definitions.now (listing_at c.args.kept.now) c.args.classes.now v c.args.woken.now c.loop-number.woken) c.in-Some.ensures.cases.0 c.loop-number.invariant)
    (sym c.is_lacking.ensures ∙ c.if-is_lacking.true) (sym c.is_ready.ensures ∙ c.if-is_ready.true) c.in_ok-add_new.ensures.ok

pub loop-number-preserved : goal.loop-number-preserved
loop-number-preserved c =
    wakes_skip c.args.definitions.now (listing_at c.args.kept.now) c.args.classes.now c.in-Some.others.now c.args.woken.now c.loop-number.woken c.in-Some.number.now
    (subst (λ v. Wakes c.args.definitions.now (listing_at c.args.kept.now) c.args.classes.now v c.args.woken.now c.loop-number.woken) c.in-Some.ensures.cases.0 c.loop-number.invariant)
    (elim c.else-is_lacking.branch [
      | else-is_lacking-via-then-is_lacking+else-is_ready w ↦ λ l. sym w.is_ready.ensures ∙ w.if-is_ready.false
      | else-is_lacking-via-else-is_lacking w ↦ λ l. absurd (true≢false (sym l ∙ sym c.is_lacking.ensures ∙ w.if-is_lacking.false))
    ])
