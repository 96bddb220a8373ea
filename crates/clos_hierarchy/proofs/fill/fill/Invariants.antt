use Rattle.clos_precedence.specs.PrecedenceView.{numbers}
use Rattle.clos_hierarchy.specs.inner.Kept.{Adds, Progress, lacking_in}
use Rattle.clos_hierarchy.specs.inner.Touched.{OthersStay}
use Rattle.clos_hierarchy.proofs.fill.fill.Given as goal

abbrev pub invariant-loop-alloc : goal.invariant-loop-alloc
invariant-loop-alloc l =
    (Progress l.definitions l.fn.kept.items → Progress l.definitions l.kept.items) × Adds l.fn.kept.items l.kept.items × OthersStay (numbers l.fn.places) l.fn.kept.items l.kept.items

abbrev pub decreases-loop-alloc : goal.decreases-loop-alloc
decreases-loop-alloc l = lacking_in l.kept.items
