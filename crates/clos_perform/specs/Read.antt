-- What holds of each top-level form that is read.
use Rattle.std.specs.Prelude.{⊤}
use Rattle.clos_top.specs.declared.top.Top.{Top}
use Rattle.clos_top.specs.declared.top.Top.TheVariants.{DefClass, DefGeneric, DefMethod, DefCombination, Defun, DefVar, RemoveMethod, AddDependent, RemoveDependent, InPackage, Expr}
use Rattle.clos_top.specs.clos_syntax.Laws.{IsSpecialized}
use Rattle.clos_definition_forms.specs.clos_definition.Generic as generic

-- A generic function has an argument precedence order of all its required parameters, and each method one specializer for each.
abbrev pub IsWellRead : Top → Type 0
IsWellRead (DefClass c) = ⊤
IsWellRead (DefGeneric g) = generic.IsWellRead g
IsWellRead (DefMethod n m) = IsSpecialized m
IsWellRead (DefCombination c) = ⊤
IsWellRead (Defun f) = ⊤
IsWellRead (DefVar v) = ⊤
IsWellRead (RemoveMethod f g) = ⊤
IsWellRead (AddDependent f g) = ⊤
IsWellRead (RemoveDependent f g) = ⊤
IsWellRead InPackage = ⊤
IsWellRead (Expr f) = ⊤
