use Rattle.std.proofs.Common.{◌≡◌, ◌++◌, length}
use Rattle.clos_meaning.specs.clos_world.clos_store.UpdateView.{values_of}
use Rattle.clos_meaning.specs.Updating.{properties}
use Rattle.clos_machine.proofs.updating.properties.Given as goal

abbrev pub invariant-loop-first : goal.invariant-loop-first
invariant-loop-first l = l.values ++ properties (values_of l.left) ≡ properties (values_of l.fn.lost)

abbrev pub decreases-loop-first : goal.decreases-loop-first
decreases-loop-first l = length l.left
