use Rattle.std.proofs.Common.{◌≡◌, length}
use Rattle.std.specs.HashMap.{get}
use Rattle.lisp_data.specs.Name.{same_name}
use Rattle.clos_class.specs.inner.Building.{no_slots, with_slots}
use Rattle.clos_class.proofs.layout.placed.Given as goal

abbrev pub invariant-loop-name : goal.invariant-loop-name
invariant-loop-name l = with_slots (λ n. get same_name l.fn.allocations n) l.slots l.left ≡ with_slots (λ n. get same_name l.fn.allocations n) no_slots l.fn.names

abbrev pub decreases-loop-name : goal.decreases-loop-name
decreases-loop-name l = length l.left
