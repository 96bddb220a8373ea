use Rattle.std.proofs.Common.{◌≡◌, ◌++◌, length}
use Rattle.clos_definition.specs.Method.{specializers_with}
use Rattle.clos_definition.proofs.method.specializers_with.Given as goal

abbrev pub invariant-loop-specializer : goal.invariant-loop-specializer
invariant-loop-specializer l = l.found ++ specializers_with l.classes l.left l.values ≡ specializers_with l.classes l.initial.left l.initial.values

abbrev pub decreases-loop-specializer : goal.decreases-loop-specializer
decreases-loop-specializer l = length l.left
