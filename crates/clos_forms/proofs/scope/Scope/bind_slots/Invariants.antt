use Rattle.std.proofs.Common.{◌≤◌, length}
use Rattle.clos_forms.proofs.scope.Scope.bind_slots.Given as goal

-- within the names
abbrev pub invariant-loop-position : goal.invariant-loop-position
invariant-loop-position l = l.position ≤ length l.fn.bindings

abbrev pub decreases-loop-position : goal.decreases-loop-position
decreases-loop-position l = l.position
