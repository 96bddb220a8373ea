use Rattle.std.proofs.Common.{◌≡◌, length}
use Rattle.std.specs.List.{list_all}
use Rattle.clos_generic.specs.Changes.{is_supported}
use Rattle.clos_generic.proofs.table.Generics.additions_supported.Given as goal

abbrev pub invariant-loop-addition : goal.invariant-loop-addition
invariant-loop-addition l =
    list_all (λ a. is_supported l.self.table a.generic.0 a.likeness) l.left
    ≡ list_all (λ a. is_supported l.self.table a.generic.0 a.likeness) l.initial.left

abbrev pub decreases-loop-addition : goal.decreases-loop-addition
decreases-loop-addition l = length l.left
