-- What holds of each method of a top-level form that is read.
use Rattle.std.specs.Prelude.{All, ⊤}
use Rattle.clos_syntax.specs.Laws.{IsSpecialized}
use Rattle.clos_top.specs.declared.top.Top.{Top}
use Rattle.clos_top.specs.declared.top.Top.TheVariants.{DefClass, DefGeneric, DefMethod, DefCombination, Defun, DefVar, RemoveMethod, AddDependent, RemoveDependent, InPackage, Expr}

-- it has one specializer for each required parameter
abbrev pub AreSpecialized : Top → Type 0
AreSpecialized (DefClass c) = ⊤
AreSpecialized (DefGeneric g) = All IsSpecialized g.methods
AreSpecialized (DefMethod n m) = IsSpecialized m
AreSpecialized (DefCombination c) = ⊤
AreSpecialized (Defun f) = ⊤
AreSpecialized (DefVar v) = ⊤
AreSpecialized (RemoveMethod f g) = ⊤
AreSpecialized (AddDependent f g) = ⊤
AreSpecialized (RemoveDependent f g) = ⊤
AreSpecialized InPackage = ⊤
AreSpecialized (Expr f) = ⊤
