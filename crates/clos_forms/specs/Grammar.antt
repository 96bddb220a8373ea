-- The form that a datum is (HyperSpec 3.1.2.1): its shape, with each part's form.
use Rattle.std.specs.Prelude.{ℕ, zero, suc, List, [], ◌∷◌, Option, Some, None}
use Rattle.lisp_data.specs.Limits.{most_nesting}
use Rattle.lisp_data.specs.Datum.{Dat, Dats}
use Rattle.clos_forms.specs.Body.{body_parts}
use Rattle.clos_forms.specs.Fault.{◌>>=◌}
use Rattle.clos_forms.specs.Form.{Form, form, Forms, nil, cons}
use Rattle.clos_forms.specs.Part.{Part, in_roles}
use Rattle.clos_forms.specs.Shape.{shape_of}
use Rattle.clos_forms.specs.declared.part.Context.{Context}
use Rattle.clos_forms.specs.declared.part.Role.TheVariants.{Expression}

-- the form of each part, where each has one, before these forms
abbrev pub each_part : (Part → Option Form) → List Part → Option Forms → Option Forms
each_part tree [] o = o
each_part tree (p ∷ ps) o = tree p >>= λ f. each_part tree ps o >>= λ fs. Some (cons f fs)

-- the form of a datum in its role. Each part has one less room, which never ends: no datum nests so deep
abbrev pub tree_at : ℕ → Context → Part → Option Form
tree_at zero context p = None
tree_at (suc room) context p =
    shape_of context p.role p.datum >>= λ s. each_part (tree_at room context) s.parts (Some nil) >>= λ fs. Some (form s.operator fs)

-- a form for each part, in the same order, where each has one that this room suffices for
abbrev pub trees_at : ℕ → Context → List Part → Option Forms
trees_at room context ps = each_part (tree_at room context) ps (Some nil)

-- one more than the deepest datum nests
abbrev pub full_room : ℕ
full_room = suc most_nesting

-- what a datum is as an expression that stands in this context
abbrev pub form_of : Context → Dat → Option Form
form_of context d = tree_at full_room context (record { role = Expression; datum = d })

-- the forms of a list's data
abbrev pub forms_of : Context → Dats → Option Forms
forms_of context l = trees_at full_room context (in_roles Expression l)

-- the forms of a body
abbrev pub body_forms_of : Context → Dats → Option Forms
body_forms_of context l = trees_at full_room context (body_parts l)
