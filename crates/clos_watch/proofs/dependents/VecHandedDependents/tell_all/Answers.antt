use Rattle.std.proofs.Common.{rules}
use Rattle.clos_watch.specs.Watching.{times_told, watching}
use Rattle.clos_watch.proofs.AtPlace.{has_room, left_are, tells_on_first, tells_on_last, tells_on_written, there_ready, written}
use Rattle.clos_watch.proofs.dependents.VecHandedDependents.tell_all.Goals as goal

pub loop-notice-init : goal.loop-notice-init
loop-notice-init g c =
    tells_on_first _ _ _ (watching c.args.watchers.now) c.args.notices.now c.args.self.now.items
    (there_ready _ (times_told (watching c.args.watchers.now) c.args.notices.now) c.args.self.now.items (λ d. d.0) c.requires)

pub tell_all-requires : goal.tell_all-requires
tell_all-requires g c = record {
  room = λ p d h e.
      has_room (λ d. d.0) _ _ (watching c.args.watchers.now) c.args.notices.now c.args.self.now.items c.loop-notice.self.items
      c.in-Some.notice.now
      c.in-Some.others.now
      (left_are _ _ _ _ _ _ c.loop-notice.self.items c.loop-notice.left.now c.in-Some.notice.now c.in-Some.others.now
      c.loop-notice.invariant c.in-Some.ensures.cases.0) p d h (search rules);
}

pub loop-notice-preserved : goal.loop-notice-preserved
loop-notice-preserved g c =
    tells_on_written (λ d. d.0) _ _ (watching c.args.watchers.now) c.args.notices.now c.args.self.now.items c.loop-notice.self.items
    c.in-Some.notice.now c.in-Some.others.now c.tell_all.new.dependents _
    (left_are _ _ _ _ _ _ c.loop-notice.self.items c.loop-notice.left.now c.in-Some.notice.now c.in-Some.others.now c.loop-notice.invariant
    c.in-Some.ensures.cases.0)
    (written (λ d. d.0) c.loop-notice.self.items c.tell_all.new.dependents c.loop-notice.self.len (search rules) (search rules))
    (λ p d e h i. c.tell_all.ensures.told p d e (search rules) i) (λ p d e h i. c.tell_all.ensures.room p d e (search rules) i)
    (search rules)

pub returns-clause-told : goal.returns-clause-told
returns-clause-told g c = tells_on_last _ _ _ _ _ _ c.loop-notice.self.items c.loop-notice.left.now c.loop-notice.invariant
    c.in_default.ensures.cases
