-- The first definition that is reserved is of its own name.
use Rattle.std.proofs.Common.{◌≡◌, true, refl}
use Rattle.lisp_data.specs.KeyLaws.{same_name-Decides}
use Rattle.clos_forms.specs.declared.operator.FunctionName.{FunctionName}
use Rattle.clos_forms.specs.declared.operator.FunctionName.TheVariants.{Symbol, Setf}
use Rattle.clos_generic.specs.Table.{same_function}

pub same_function_self : (n : FunctionName) → same_function n n ≡ true
same_function_self (Symbol a) = (same_name-Decides a a).1 refl
same_function_self (Setf a) = (same_name-Decides a a).1 refl
