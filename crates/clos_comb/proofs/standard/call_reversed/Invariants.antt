use Rattle.std.proofs.Common.{◌≡◌, take}
use Rattle.std.specs.Prelude.{reverse}
use Rattle.clos_forms.specs.Form.{nil}
use Rattle.clos_groups.specs.clos_method.MethodIds.{method_numbers}
use Rattle.clos_comb.specs.Tree.{called_before}
use Rattle.clos_comb.proofs.standard.call_reversed.Given as goal

abbrev pub invariant-loop-method : goal.invariant-loop-method
invariant-loop-method l = l.calls ≡ called_before (reverse (method_numbers (take l.method-index l.methods))) nil
