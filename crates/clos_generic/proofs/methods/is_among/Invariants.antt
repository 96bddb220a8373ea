use Rattle.std.proofs.Common.{◌≡◌, length}
use Rattle.std.specs.Prelude.{◌==◌}
use Rattle.std.specs.List.{list_any}
use Rattle.clos_method.specs.MethodIds.{method_numbers}
use Rattle.clos_generic.proofs.methods.is_among.Given as goal

abbrev pub invariant-loop-other : goal.invariant-loop-other
invariant-loop-other l = list_any (λ n. n == l.id.0) (method_numbers l.left) ≡ list_any (λ n. n == l.id.0) (method_numbers l.initial.left)

abbrev pub decreases-loop-other : goal.decreases-loop-other
decreases-loop-other l = length l.left
