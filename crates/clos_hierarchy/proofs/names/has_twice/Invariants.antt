use Rattle.std.proofs.Common.{◌≡◌, length}
use Rattle.std.specs.HashSet.{contains}
use Rattle.lisp_data.specs.Name.{same_name}
use Rattle.clos_hierarchy.specs.Table.{has_twice}
use Rattle.clos_hierarchy.proofs.Twice.{seen_or_twice}
use Rattle.clos_hierarchy.proofs.names.has_twice.Given as goal

abbrev pub invariant-loop-name : goal.invariant-loop-name
invariant-loop-name l = seen_or_twice (contains same_name l.seen) l.left ≡ has_twice l.fn.names

abbrev pub decreases-loop-name : goal.decreases-loop-name
decreases-loop-name l = length l.left
