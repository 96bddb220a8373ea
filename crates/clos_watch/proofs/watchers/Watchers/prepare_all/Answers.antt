use Rattle.std.proofs.Common.{◌<◌, length, arith, rules}
use Rattle.clos_watch.specs.Watching.{watching}
use Rattle.clos_watch.proofs.Handed.{got_below, index_get, kept_then, names_then, prepares_next}
use Rattle.clos_watch.proofs.watchers.Watchers.prepare_all.Goals as goal

pub returns-in_err-prepare-clause-same : goal.returns-in_err-prepare-clause-same
returns-in_err-prepare-clause-same g c =
    kept_then _ _ _ (watching c.args.self.now) c.args.notices.now c.args.dependents.now c.loop-place.dependents c.loop-place.place _ _
    c.loop-place.invariant c.loop-place-test.true
    (index_get c.loop-place.dependents c.loop-place.place c.index-dependents-place.result c.loop-place-test.true) (search rules) (search rules)

pub returns-in_err-prepare-clause-names : goal.returns-in_err-prepare-clause-names
returns-in_err-prepare-clause-names g c =
    names_then _ _ _ (watching c.args.self.now) c.args.notices.now c.args.dependents.now c.loop-place.dependents c.loop-place.place _ _
    c.loop-place.invariant c.loop-place-test.true
    (index_get c.loop-place.dependents c.loop-place.place c.index-dependents-place.result c.loop-place-test.true) (search rules)
    (search rules) (search rules)

pub loop-place-preserved : goal.loop-place-preserved
loop-place-preserved g c =
    prepares_next _ _ _ (watching c.args.self.now) c.args.notices.now c.args.dependents.now c.loop-place.dependents c.loop-place.place _ _
    c.loop-place.invariant c.loop-place-test.true
    (index_get c.loop-place.dependents c.loop-place.place c.index-dependents-place.result c.loop-place-test.true) (search rules)
    (search rules) (search rules) (search rules)

pub returns-clause-ok : goal.returns-clause-ok
returns-clause-ok g c = λ p d h.
    let l : p < length c.loop-place.dependents = got_below c.loop-place.dependents p d h in c.loop-place.invariant.ready p d (omega (arith, l, c.loop-place-test.false)) h
