use Rattle.std.proofs.Common.{◌≡◌, length}
use Rattle.std.specs.HashMap.{get}
use Rattle.std.specs.List.{flat_map}
use Rattle.lisp_data.specs.Name.{Name, same_name}
use Rattle.clos_class.specs.Slots.{called}
use Rattle.clos_class.specs.inner.Building.{or_no_names, with_names}
use Rattle.clos_class.proofs.slot_initargs.add_all.Given as goal

abbrev pub invariant-loop-slot : goal.invariant-loop-slot
invariant-loop-slot l =
    (n : Name)
    → with_names (or_no_names (get same_name l.found n)) (flat_map (λ s. s.initargs) (called n l.left))
    ≡ with_names (or_no_names (get same_name l.fn.found n)) (flat_map (λ s. s.initargs) (called n l.fn.slots))

abbrev pub decreases-loop-slot : goal.decreases-loop-slot
decreases-loop-slot l = length l.left
