use Rattle.std.proofs.Common.{◌≡◌, ℕ, length}
use Rattle.clos_hierarchy.specs.Table.{invalid_in}
use Rattle.clos_hierarchy.proofs.names.check_superclasses.Given as goal

abbrev pub invariant-loop-name : goal.invariant-loop-name
invariant-loop-name l =
    (limit : ℕ) → invalid_in (record { classes = l.fn.definitions; predefined = l.fn.predefined; limit = limit }) l.left
    ≡ invalid_in (record { classes = l.fn.definitions; predefined = l.fn.predefined; limit = limit }) l.fn.names

abbrev pub decreases-loop-name : goal.decreases-loop-name
decreases-loop-name l = length l.left
