use Rattle.std.proofs.Common.{◌≡◌, ◌++◌, length, map}
use Rattle.clos_definition.specs.Method.{eql_form}
use Rattle.clos_definition.proofs.method.push_forms.Given as goal

abbrev pub invariant-loop-specializer : goal.invariant-loop-specializer
invariant-loop-specializer l = l.forms.items ++ map eql_form l.left ≡ l.initial.forms.items ++ map eql_form l.initial.left

abbrev pub decreases-loop-specializer : goal.decreases-loop-specializer
decreases-loop-specializer l = length l.left
