use Rattle.std.proofs.Common.{◌≡◌, ◌≤◌, ◌-◌, drop, length, map}
use Rattle.lisp_data.specs.Numbers.{same_numbers}
use Rattle.clos_hierarchy.proofs.among.same_ids.Given as goal

abbrev pub invariant-loop-place : goal.invariant-loop-place
invariant-loop-place l =
    (l.place ≤ length l.a) × (l.place ≤ length l.b)
    × (same_numbers (map (λ c. c.0) (drop l.place l.a)) (map (λ c. c.0) (drop l.place l.b)) ≡ same_numbers (map (λ c. c.0) l.a) (map (λ c. c.0) l.b))

abbrev pub decreases-loop-place : goal.decreases-loop-place
decreases-loop-place l = length l.a - l.place
