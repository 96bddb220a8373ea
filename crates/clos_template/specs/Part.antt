-- What a datum is as a template: an operator, and data that are templates again, each in its role.
use Rattle.std.specs.Prelude.{List, [], ◌∷◌, ◌++◌, Option, Some, None}
use Rattle.lisp_data.specs.Datum.{Dat, Dats, nil, cons}
use Rattle.clos_forms.specs.Binding.{Entry}
use Rattle.clos_forms.specs.Body.{body_of}
use Rattle.clos_template.specs.Operator.{Operator, let_form}
use Rattle.clos_template.specs.declared.part.Role.{Role}
use Rattle.clos_template.specs.declared.part.Role.TheVariants.{Template}

-- a datum in its role
pub record Part : Type 0 where
  pub role : Role
  pub datum : Dat

-- one level of a template: its operator, and the data of which its parts are still to be made
pub record Shape : Type 0 where
  pub operator : Operator
  pub parts : List Part

-- the parts are those that the operator takes, in its order
abbrev pub shape : Operator → List Part → Shape
shape o ps = record { operator = o; parts = ps }

-- the role says how the datum is read: as a template, in a backquote, or as the body of a clause
abbrev pub in_role : Role → Dat → Part
in_role role d = record { role = role; datum = d }

-- templates
abbrev pub templates_in : Dats → List Part
templates_in nil = []
templates_in (cons d l) = in_role Template d ∷ templates_in l

-- a constant or a name, in which no other template stands
abbrev pub atom : Operator → Shape
atom o = shape o []

-- an operator on templates
abbrev pub operation : Operator → Dats → Shape
operation o l = shape o (templates_in l)

-- what a datum in this role gives, and nothing else
abbrev pub as_it_is : Role → Dat → Shape
as_it_is role d = shape (let_form []) (in_role role d ∷ [])

-- a template, where there is one
abbrev pub optional : Option Dat → List Part
optional None = []
optional (Some d) = in_role Template d ∷ []

-- the values of variables
abbrev pub inits_of : List Entry → List Part
inits_of [] = []
inits_of (e ∷ es) = optional e.init ++ inits_of es

-- a body without what leads it and is ignored (3.4.11)
abbrev pub body_parts : Dats → List Part
body_parts l = templates_in (body_of l)
