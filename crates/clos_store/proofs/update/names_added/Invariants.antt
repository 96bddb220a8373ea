use Rattle.std.proofs.Common.{◌≡◌, ◌++◌, length}
use Rattle.clos_store.specs.Update.{added}
use Rattle.clos_store.proofs.update.names_added.Given as goal

abbrev pub invariant-loop-name : goal.invariant-loop-name
invariant-loop-name l = l.added.items ++ added l.fn.instance l.left ≡ added l.fn.instance l.fn.names

abbrev pub decreases-loop-name : goal.decreases-loop-name
decreases-loop-name l = length l.left
