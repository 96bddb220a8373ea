use Rattle.std.proofs.Common.{◌≡◌, ◌-◌, ◌≤◌, ◌++◌, length, drop}
use Rattle.clos_precedence.specs.PrecedenceView.{numbers}
use Rattle.clos_hierarchy.specs.inner.Touched.{others_among}
use Rattle.clos_hierarchy.proofs.among.changed_among.Given as goal

abbrev pub invariant-loop-at : goal.invariant-loop-at
invariant-loop-at l = (numbers l.changed.items ++ others_among (drop l.at l.fn.places) (drop l.at l.fn.olds) l.fn.now ≡ others_among l.fn.places l.fn.olds l.fn.now) × (l.at ≤ length l.fn.places)

abbrev pub decreases-loop-at : goal.decreases-loop-at
decreases-loop-at l = length l.fn.places - l.at
