-- The template that a datum is: its shape, with each part's template.
use Rattle.std.specs.Prelude.{ℕ, zero, suc, List, [], ◌∷◌, Option, Some, None}
use Rattle.lisp_data.specs.Limits.{most_nesting}
use Rattle.lisp_data.specs.Datum.{Dats}
use Rattle.clos_forms.specs.Fault.{◌>>=◌}
use Rattle.clos_template.specs.Operator.{let_form}
use Rattle.clos_template.specs.Part.{Part, body_parts}
use Rattle.clos_template.specs.Shape.{shape_of}
use Rattle.clos_template.specs.Template.{Template, template, Templates, nil, cons}

-- the template of each part, where each has one, before these templates
abbrev pub each_part : (Part → Option Template) → List Part → Option Templates → Option Templates
each_part tree [] o = o
each_part tree (p ∷ ps) o = tree p >>= λ t. each_part tree ps o >>= λ ts. Some (cons t ts)

-- the template of a datum in its role. Each part has one less room, which never ends: no datum nests so deep
abbrev pub tree_at : ℕ → Part → Option Template
tree_at zero p = None
tree_at (suc room) p = shape_of p.role p.datum >>= λ s. each_part (tree_at room) s.parts (Some nil) >>= λ ts. Some (template s.operator ts)

-- a template for each part, in the same order, where each has one that this room suffices for
abbrev pub trees_at : ℕ → List Part → Option Templates
trees_at room ps = each_part (tree_at room) ps (Some nil)

-- one more than the deepest datum nests
abbrev pub full_room : ℕ
full_room = suc most_nesting

-- the body of a long form: what the last of its templates gives
abbrev pub body_template_of : Dats → Option Template
body_template_of l = trees_at full_room (body_parts l) >>= λ ts. Some (template (let_form []) ts)
