use Rattle.std.proofs.Common.{◌≡◌, length, map}
use Rattle.clos_template.specs.Scope.{value_of}
use Rattle.clos_template.specs.ScopeView.{binding_of}
use Rattle.clos_template.proofs.scope.Scope.value.Given as goal

abbrev pub invariant-loop-last : goal.invariant-loop-last
invariant-loop-last l = value_of (map binding_of l.left) l.name ≡ value_of l.self l.name

abbrev pub decreases-loop-last : goal.decreases-loop-last
decreases-loop-last l = length l.left
