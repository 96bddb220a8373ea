use Rattle.std.proofs.Common.{◌≡◌, take}
use Rattle.std.specs.Prelude.{map}
use Rattle.clos_forms.specs.CallMethodView.{callable}
use Rattle.clos_forms.specs.Operator.{the_method}
use Rattle.clos_groups.specs.clos_method.MethodIds.{method_numbers}
use Rattle.clos_comb.proofs.standard.next_methods_and_made.Given as goal

abbrev pub invariant-loop-method : goal.invariant-loop-method
invariant-loop-method l = map callable l.next.items ≡ map the_method (method_numbers (take l.method-index l.methods))
