-- Which keyword arguments a call of a generic function may have (HyperSpec 7.6.5): over the shape of the function, all methods, and
-- the numbers of the applicable ones.
use Rattle.std.specs.Prelude.{ℕ, Bool, false, ◌&&◌, ◌||◌, List, codes, is_some, slice_get}
use Rattle.std.specs.List.{list_any}
use Rattle.std.specs.Option.{option_map_or}
use Rattle.std.specs.Str.{bytes_eq}
use Rattle.lisp_data.specs.Name.{Name, same_name}
use Rattle.clos_method.specs.Shape.{allows_others, names_of}
use Rattle.clos_method.specs.declared.method.Method.{Method}
use Rattle.clos_method.specs.declared.shape.Shape.{Shape}

abbrev pub has_keys : Shape → Bool
has_keys s = is_some s.keys

abbrev pub allows_in : Shape → Bool
allows_in s = allows_others s.keys

abbrev pub names_keyword : Name → Shape → Bool
names_keyword name s = list_any (same_name name) (names_of s.keys)

-- whether the method of this number has such a shape
abbrev pub is_shaped : (Shape → Bool) → List Method → ℕ → Bool
is_shaped test methods n = option_map_or (λ m. test m.shape) (slice_get methods n) false

abbrev pub method_checks : List Method → ℕ → Bool
method_checks methods n = is_shaped has_keys methods n

abbrev pub method_allows : List Method → ℕ → Bool
method_allows methods n = is_shaped allows_in methods n

abbrev pub method_names : List Method → Name → ℕ → Bool
method_names methods name n = is_shaped (names_keyword name) methods n

-- the symbol :ALLOW-OTHER-KEYS, which may always stand in a call
abbrev pub is_allow_other_keys : Name → Bool
is_allow_other_keys name = name.keyword && bytes_eq name.text (codes "ALLOW-OTHER-KEYS")

module _ (generic : Shape) (methods : List Method) (applicable : List ℕ) where
  -- Arguments are checked where the function or an applicable method has &key.
  abbrev pub checks_keywords : Bool
  checks_keywords = has_keys generic || list_any (method_checks methods) applicable

  -- All are accepted where the function or an applicable method has &allow-other-keys.
  abbrev pub allows_all : Bool
  allows_all = allows_in generic || list_any (method_allows methods) applicable

  -- Else those are that the function or an applicable method names.
  abbrev pub accepts_keyword : Name → Bool
  accepts_keyword name =
      is_allow_other_keys name
      || (allows_all || (names_keyword name generic || list_any (method_names methods name) applicable))
