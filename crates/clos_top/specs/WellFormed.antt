-- What holds of the forms of each top-level form that is read: they are well formed, and those of a method's body alone
-- may call its next method.
use Rattle.std.specs.Prelude.{⊤}
use Rattle.clos_syntax.specs.WellFormed.{IsPlain, OfClass, OfFunction, OfGeneric, OfMethod, OfVariable}
use Rattle.clos_top.specs.declared.top.Top.{Top}
use Rattle.clos_top.specs.declared.top.Top.TheVariants.{DefClass, DefGeneric, DefMethod, DefCombination, Defun, DefVar, RemoveMethod, AddDependent, RemoveDependent, InPackage, Expr}

-- all forms of a top-level form
abbrev pub AreWellFormed : Top → Type 0
AreWellFormed (DefClass c) = OfClass c
AreWellFormed (DefGeneric g) = OfGeneric g
AreWellFormed (DefMethod n m) = OfMethod m
AreWellFormed (DefCombination c) = ⊤
AreWellFormed (Defun f) = OfFunction f
AreWellFormed (DefVar v) = OfVariable v
AreWellFormed (RemoveMethod f g) = IsPlain f × IsPlain g
AreWellFormed (AddDependent f g) = IsPlain f × IsPlain g
AreWellFormed (RemoveDependent f g) = IsPlain f × IsPlain g
AreWellFormed InPackage = ⊤
AreWellFormed (Expr f) = IsPlain f
