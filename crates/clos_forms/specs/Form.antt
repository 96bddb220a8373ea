-- The forms that are evaluated (HyperSpec 3.1.2.1).
use Rattle.std.specs.Prelude.{ℕ, ◌+◌, List, [], ◌∷◌}
use Rattle.clos_forms.specs.Operator.{Operator}

-- an operator and its parts
mutual
  -- the parts are forms again; the operator says what each of them is
  pub data Form : Type 0 where
    form : Operator → Forms → Form

  -- the parts of one form, in order
  pub data Forms : Type 0 where
    nil : Forms
    cons : Form → Forms → Forms

-- what the form does with its parts
abbrev pub operator_in : Form → Operator
operator_in (form o parts) = o

-- the forms on which its operator works
abbrev pub parts_in : Form → Forms
parts_in (form o parts) = parts

-- one for each form and each cell
abbrev mutual
  -- two for the form, which the code has in a node of its own, and what its parts take
  pub size_of_form : Form → ℕ
  size_of_form (form o parts) = 2 + size_of_forms parts

  -- one for each cell and for the end, and what the forms take
  pub size_of_forms : Forms → ℕ
  size_of_forms nil = 1
  size_of_forms (cons f fs) = 1 + (size_of_form f + size_of_forms fs)

-- the same forms as a list of the definitions
abbrev pub elements : Forms → List Form
elements nil = []
elements (cons f fs) = f ∷ elements fs

-- back from a list of the definitions
abbrev pub list_from : List Form → Forms
list_from [] = nil
list_from (f ∷ fs) = cons f (list_from fs)
