use Rattle.std.proofs.Common.{length}
use Rattle.clos_hierarchy.specs.inner.Touched.{have_it}
use Rattle.clos_hierarchy.proofs.Ascending.{Merges}
use Rattle.clos_hierarchy.proofs.touched.add_below.Given as goal

abbrev pub invariant-loop-number : goal.invariant-loop-number
invariant-loop-number l = Merges l.fn.places.items l.places.items (have_it l.fn.kept l.fn.class.0 l.fn.noted) (have_it l.fn.kept l.fn.class.0 l.left)

abbrev pub decreases-loop-number : goal.decreases-loop-number
decreases-loop-number l = length l.left
