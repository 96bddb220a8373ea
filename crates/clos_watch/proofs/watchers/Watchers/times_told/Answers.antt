use Rattle.std.proofs.Common.{◌≡◌, ◌+◌, ◌≤◌, length, ap, arith, subst, sym, ◌∙◌}
use Rattle.clos_watch.specs.Watching.{has, times_told, watching}
use Rattle.clos_watch.proofs.Times.{any_turned, times_more, times_same}
use Rattle.clos_watch.proofs.watchers.Watchers.times_told.Goals as goal

pub loop-notice-preserved-then-contains : goal.loop-notice-preserved-then-contains
loop-notice-preserved-then-contains c = (
  times_more (watching c.args.self.now) c.in-Some.notice.now c.in-Some.others.now c.args.notices.now c.args.place c.loop-notice.times
      (subst (λ v. c.loop-notice.times + times_told (watching c.args.self.now) v c.args.place ≡ times_told (watching c.args.self.now)
      c.args.notices.now c.args.place) c.in-Some.ensures.cases.0 c.loop-notice.invariant.0)
      (ap (λ m. has (watching c.args.self.now m) c.args.place) (sym c.metaobject.ensures) ∙ ap (λ xs. has xs c.args.place)
      (sym c.of.ensures.places) ∙ sym (any_turned c.of.result.now c.args.place) ∙ sym c.contains.ensures.value ∙ c.if-contains.true),
  (let l : length c.loop-notice.left.now ≡ length c.in-Some.others.now + 1 = ap length c.in-Some.ensures.cases.0 ∙ omega (arith) in
      let m : c.loop-notice.times + length c.loop-notice.left.now ≤ length c.args.notices.now = c.loop-notice.invariant.1 in omega (arith, l, m)),
)

pub loop-notice-preserved : goal.loop-notice-preserved
loop-notice-preserved c = (
  times_same (watching c.args.self.now) c.in-Some.notice.now c.in-Some.others.now c.args.notices.now c.args.place c.loop-notice.times
      (subst (λ v. c.loop-notice.times + times_told (watching c.args.self.now) v c.args.place ≡ times_told (watching c.args.self.now)
      c.args.notices.now c.args.place) c.in-Some.ensures.cases.0 c.loop-notice.invariant.0)
      (ap (λ m. has (watching c.args.self.now m) c.args.place) (sym c.metaobject.ensures) ∙ ap (λ xs. has xs c.args.place)
      (sym c.of.ensures.places) ∙ sym (any_turned c.of.result.now c.args.place) ∙ sym c.contains.ensures.value ∙ c.if-contains.false),
  (let l : length c.loop-notice.left.now ≡ length c.in-Some.others.now + 1 = ap length c.in-Some.ensures.cases.0 ∙ omega (arith) in
      let m : c.loop-notice.times + length c.loop-notice.left.now ≤ length c.args.notices.now = c.loop-notice.invariant.1 in omega (arith, l, m)),
)
