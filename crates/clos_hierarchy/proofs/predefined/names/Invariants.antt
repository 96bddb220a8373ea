use Rattle.std.proofs.Common.{◌≡◌, ◌++◌, ◌-◌, ◌≤◌, drop, length, map}
use Rattle.clos_hierarchy.specs.Initial.{fixed_names}
use Rattle.clos_hierarchy.proofs.predefined.names.Given as goal

abbrev pub invariant-loop-place : goal.invariant-loop-place
invariant-loop-place l = (l.names.items ++ fixed_names (map (λ t. t.now) (drop l.place l.fn.texts)) ≡ fixed_names (map (λ t. t.now) l.fn.texts)) × (l.place ≤ length l.fn.texts)

abbrev pub decreases-loop-place : goal.decreases-loop-place
decreases-loop-place l = length l.fn.texts - l.place
