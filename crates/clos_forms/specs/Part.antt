-- What a datum is as a form: an operator, and data that are forms again, each in its role (HyperSpec 3.1.2.1).
use Rattle.std.specs.Prelude.{List, [], ◌∷◌, Bool, true, false, Option, Some, None}
use Rattle.lisp_data.specs.Datum.{Dat, Dats, nil, cons}
use Rattle.clos_forms.specs.Operator.{Operator}
use Rattle.clos_forms.specs.declared.part.Role.{Role}
use Rattle.clos_forms.specs.declared.part.Role.TheVariants.{Expression}
use Rattle.clos_forms.specs.declared.part.Context.{Context}
use Rattle.clos_forms.specs.declared.part.Context.TheVariants.{Plain, Method, Effective}

-- a datum in its role
pub record Part : Type 0 where
  pub role : Role
  pub datum : Dat

-- one level of a form: its operator, and the data of which its parts are still to be made
pub record Shape : Type 0 where
  pub operator : Operator
  pub parts : List Part

-- whether a form stands in the body of a method (7.6.6.2)
abbrev pub in_method : Context → Bool
in_method Plain = false
in_method Method = true
in_method Effective = false

-- whether it stands in an effective form, where call-method may stand (7.6.6.2)
abbrev pub in_effective : Context → Bool
in_effective Plain = false
in_effective Method = false
in_effective Effective = true

-- the parts are those that the operator takes, in its order
abbrev pub shape : Operator → List Part → Shape
shape o ps = record { operator = o; parts = ps }

-- the role says how the datum is read: as an expression, as a clause of cond, or as a place
abbrev pub in_role : Role → Dat → Part
in_role role d = record { role = role; datum = d }

-- each of these data in this one role, in order
abbrev pub in_roles : Role → Dats → List Part
in_roles role nil = []
in_roles role (cons d l) = in_role role d ∷ in_roles role l

-- an expression, where there is one
abbrev pub optional : Option Dat → List Part
optional None = []
optional (Some d) = in_role Expression d ∷ []

-- an operator on expressions
abbrev pub operation : Operator → Dats → Shape
operation o l = shape o (in_roles Expression l)

-- the one datum of a list
abbrev pub only_in : Dats → Option Dat
only_in nil = None
only_in (cons d nil) = Some d
only_in (cons d (cons e l)) = None

-- the datum that a list may have, where it has no more
abbrev pub at_most_one : Dats → Option (Option Dat)
at_most_one nil = Some None
at_most_one (cons d nil) = Some (Some d)
at_most_one (cons d (cons e l)) = None
