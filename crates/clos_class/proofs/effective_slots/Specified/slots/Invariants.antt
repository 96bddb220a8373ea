use Rattle.std.proofs.Common.{◌≡◌, ◌++◌, length, map}
use Rattle.std.specs.HashMap.{get}
use Rattle.lisp_data.specs.Name.{same_name}
use Rattle.clos_class.specs.inner.Building.{or_no_names, slot_by}
use Rattle.clos_class.proofs.effective_slots.Specified.slots.Given as goal

abbrev pub invariant-loop-name : goal.invariant-loop-name
invariant-loop-name l =
    l.slots ++ map (slot_by (λ n. get same_name l.fn.self.allocations n) (λ n. or_no_names (get same_name l.fn.self.initargs n)) (λ n. get same_name l.fn.self.initforms n)) l.left
    ≡ map (slot_by (λ n. get same_name l.fn.self.allocations n) (λ n. or_no_names (get same_name l.fn.self.initargs n)) (λ n. get same_name l.fn.self.initforms n)) l.fn.names

abbrev pub decreases-loop-name : goal.decreases-loop-name
decreases-loop-name l = length l.left
