-- Templates (HyperSpec 7.7 define-method-combination): what an effective form is written with.
use Rattle.std.specs.Prelude.{ℕ, ◌+◌}
use Rattle.clos_template.specs.Operator.{Operator}

-- an operator and its parts
mutual
  -- the parts are templates again; the operator says what each of them is
  pub data Template : Type 0 where
    template : Operator → Templates → Template

  -- the parts of one template, in order
  pub data Templates : Type 0 where
    nil : Templates
    cons : Template → Templates → Templates

-- what the template does with its parts
abbrev pub operator_in : Template → Operator
operator_in (template o parts) = o

-- the templates on which its operator works
abbrev pub parts_in : Template → Templates
parts_in (template o parts) = parts

-- those after the first
abbrev pub rest_of : Templates → Templates
rest_of nil = nil
rest_of (cons t ts) = ts

-- one for each template and each cell
abbrev mutual
  -- two for the template, which the code has in a node of its own, and what its parts take
  pub size_of_template : Template → ℕ
  size_of_template (template o parts) = 2 + size_of_templates parts

  -- one for each cell and for the end, and what the templates take
  pub size_of_templates : Templates → ℕ
  size_of_templates nil = 1
  size_of_templates (cons t ts) = 1 + (size_of_template t + size_of_templates ts)
