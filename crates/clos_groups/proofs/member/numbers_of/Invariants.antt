use Rattle.std.proofs.Common.{◌≡◌, ◌≤◌, ℕ, drop, length, nat_eq}
use Rattle.std.specs.Prelude.{◌==◌}
use Rattle.std.specs.HashSet.{contains}
use Rattle.std.specs.List.{list_any}
use Rattle.clos_method.specs.MethodIds.{method_numbers}
use Rattle.clos_groups.proofs.member.numbers_of.Given as goal

abbrev pub invariant-loop-at : goal.invariant-loop-at
invariant-loop-at l =
    (l.at ≤ length l.ids) × ((n : ℕ) → contains nat_eq l.numbers n ≡ list_any (λ m. m == n) (method_numbers (drop l.at l.ids)))

abbrev pub decreases-loop-at : goal.decreases-loop-at
decreases-loop-at l = l.at
