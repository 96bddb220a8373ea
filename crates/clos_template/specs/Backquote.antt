-- What stands in a backquote (HyperSpec 2.4.6).
use Rattle.std.specs.Prelude.{List, [], ◌∷◌, Bool, true, false, codes, Option, Some, None, if◌then◌else◌}
use Rattle.lisp_data.specs.Datum.{Dat, integer, symbol, string, list, dotted, method, Dats, nil, cons}
use Rattle.clos_forms.specs.Binding.{each}
use Rattle.clos_forms.specs.Fault.{◌>>=◌}
use Rattle.clos_forms.specs.Part.{only_in}
use Rattle.clos_lambda.specs.Sections.{is_symbol_called}
use Rattle.clos_template.specs.Operator.{constant, written}
use Rattle.clos_template.specs.Part.{Part, Shape, shape, atom, as_it_is, in_role}
use Rattle.clos_template.specs.declared.part.Role.TheVariants.{Template, Quoted}

-- an element of a backquoted list, and whether the elements of what it gives stand in its place
pub record Element : Type 0 where
  pub spliced : Bool
  pub part : Part

-- where the flag is set, the elements of what this part gives stand in its place; else what it gives does
abbrev pub element : Bool → Part → Element
element b p = record { spliced = b; part = p }

-- an element that stands as it is
abbrev pub standing : Dat → Element
standing d = element false (in_role Quoted d)

-- exactly one template after UNQUOTE-SPLICING; else what stands there
abbrev pub listed_element : Dats → Option Element
listed_element nil = Some (standing (list nil))
listed_element (cons head rest) =
    if is_symbol_called (codes "UNQUOTE-SPLICING") head then (only_in rest >>= λ d. Some (element true (in_role Template d)))
    else Some (standing (list (cons head rest)))

-- only a list may be one that is spliced, which its head says; any other datum stands as it is
abbrev pub element_in : Dat → Option Element
element_in (integer n) = Some (standing (integer n))
element_in (symbol name) = Some (standing (symbol name))
element_in (string s) = Some (standing (string s))
element_in (list l) = listed_element l
element_in (dotted l d) = Some (standing (dotted l d))
element_in (method n) = Some (standing (method n))

-- for each element whether it is spliced
abbrev pub flags_of : List Element → List Bool
flags_of [] = []
flags_of (e ∷ es) = e.spliced ∷ flags_of es

-- what is expanded for each element
abbrev pub parts_of : List Element → List Part
parts_of [] = []
parts_of (e ∷ es) = e.part ∷ parts_of es

-- a list of these elements, with this atom after its dot
abbrev pub written_shape : Dats → Option Dat → Option Shape
written_shape l last = each element_in l >>= λ es. Some (shape (written (flags_of es) last) (parts_of es))

-- A template stands after UNQUOTE. No backquote stands directly in another, and only an element of a list is spliced.
abbrev pub quoted_list : Dats → Option Shape
quoted_list nil = Some (atom (constant (list nil)))
quoted_list (cons head rest) =
    if is_symbol_called (codes "UNQUOTE") head then (only_in rest >>= λ d. Some (as_it_is Template d))
    else if is_symbol_called (codes "QUASIQUOTE") head then None
    else if is_symbol_called (codes "UNQUOTE-SPLICING") head then None
    else written_shape (cons head rest) None

-- an atom stands for itself, a list for one in which what is unquoted is expanded; a method may not stand here
abbrev pub quoted_shape : Dat → Option Shape
quoted_shape (integer n) = Some (atom (constant (integer n)))
quoted_shape (symbol name) = Some (atom (constant (symbol name)))
quoted_shape (string s) = Some (atom (constant (string s)))
quoted_shape (list l) = quoted_list l
quoted_shape (dotted l d) = written_shape l (Some d)
quoted_shape (method n) = None
