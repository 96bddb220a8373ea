-- What holds of each method that is read.
use Rattle.std.specs.Prelude.{◌≡◌, length}
use Rattle.clos_syntax.specs.declared.method.MethodDefinition.{MethodDefinition}

-- one specializer for each required parameter (7.6.2)
abbrev pub IsSpecialized : MethodDefinition → Type 0
IsSpecialized m = length m.specializers ≡ length m.lambda_list.required
