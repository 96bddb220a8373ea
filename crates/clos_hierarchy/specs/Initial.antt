-- The classes that a session begins with (HyperSpec 4.3.7, figure 4-8; AMOP 5.3).
use Rattle.std.specs.Prelude.{ℕ, ◌==◌, nat_le, Bool, ◌||◌, List, [], ◌∷◌, ◌++◌, map, codes, false, length, if◌then◌else◌}
use Rattle.std.specs.List.{position_or_len}
use Rattle.std.specs.Str.{bytes_eq}
use Rattle.lisp_data.specs.Name.{Name}
use Rattle.clos_hierarchy.specs.Classes.{Classes, with_class}
use Rattle.clos_hierarchy.specs.Table.{Table}

abbrev pub fixed_name : List ℕ → Name
fixed_name text = record { text = text; keyword = false }

abbrev pub fixed_names : List (List ℕ) → List Name
fixed_names texts = map fixed_name texts

-- a class, and the rest of its class precedence list
abbrev pub Row : Type 0
Row = List ℕ × List (List ℕ)

-- the classes after these are defined too: the rest of its list are the direct superclasses of each
abbrev pub all_defined : Classes → List Row → Classes
all_defined cs [] = cs
all_defined cs (r ∷ rows) = all_defined (with_class cs (fixed_name r.0) (fixed_names r.1)) rows

abbrev pub objects_and_numbers : List Row
objects_and_numbers =
    (codes "T", [])
    ∷ (codes "STANDARD-OBJECT", codes "T" ∷ [])
    ∷ (codes "INTEGER", codes "RATIONAL" ∷ codes "REAL" ∷ codes "NUMBER" ∷ codes "T" ∷ [])
    ∷ (codes "RATIONAL", codes "REAL" ∷ codes "NUMBER" ∷ codes "T" ∷ [])
    ∷ (codes "REAL", codes "NUMBER" ∷ codes "T" ∷ [])
    ∷ (codes "NUMBER", codes "T" ∷ [])
    ∷ []

abbrev pub symbols_and_sequences : List Row
symbols_and_sequences =
    (codes "NULL", codes "SYMBOL" ∷ codes "LIST" ∷ codes "SEQUENCE" ∷ codes "T" ∷ [])
    ∷ (codes "SYMBOL", codes "T" ∷ [])
    ∷ (codes "LIST", codes "SEQUENCE" ∷ codes "T" ∷ [])
    ∷ (codes "SEQUENCE", codes "T" ∷ [])
    ∷ (codes "CONS", codes "LIST" ∷ codes "SEQUENCE" ∷ codes "T" ∷ [])
    ∷ (codes "STRING", codes "VECTOR" ∷ codes "ARRAY" ∷ codes "SEQUENCE" ∷ codes "T" ∷ [])
    ∷ (codes "VECTOR", codes "ARRAY" ∷ codes "SEQUENCE" ∷ codes "T" ∷ [])
    ∷ (codes "ARRAY", codes "T" ∷ [])
    ∷ []

abbrev pub functions_and_metaobjects : List Row
functions_and_metaobjects =
    (codes "FUNCTION", codes "T" ∷ [])
    ∷ (codes "GENERIC-FUNCTION", codes "FUNCTION" ∷ codes "T" ∷ [])
    ∷ (codes "STANDARD-GENERIC-FUNCTION", codes "GENERIC-FUNCTION" ∷ codes "FUNCTION" ∷ codes "T" ∷ [])
    ∷ (codes "CLASS", codes "STANDARD-OBJECT" ∷ codes "T" ∷ [])
    ∷ (codes "STANDARD-CLASS", codes "CLASS" ∷ codes "STANDARD-OBJECT" ∷ codes "T" ∷ [])
    ∷ (codes "BUILT-IN-CLASS", codes "CLASS" ∷ codes "STANDARD-OBJECT" ∷ codes "T" ∷ [])
    ∷ (codes "STANDARD-METHOD", codes "METHOD" ∷ codes "STANDARD-OBJECT" ∷ codes "T" ∷ [])
    ∷ (codes "METHOD", codes "T" ∷ [])
    ∷ []

-- all of them, in order
abbrev pub rows : List Row
rows = objects_and_numbers ++ (symbols_and_sequences ++ functions_and_metaobjects)

-- the number of the predefined class of this name: its place among them
abbrev pub number : List ℕ → ℕ
number text = position_or_len (λ r. bytes_eq text r.0) rows

abbrev pub predefined : Classes
predefined = all_defined (all_defined (all_defined (record { names = []; above = [] }) objects_and_numbers) symbols_and_sequences) functions_and_metaobjects

abbrev pub initial : ℕ → Table
initial limit = record { classes = predefined; predefined = length predefined.names; limit = limit }

-- a class that defclass makes, or STANDARD-OBJECT: programs may make instances of it (4.3.7)
abbrev pub is_standard : Table → ℕ → Bool
is_standard t n = (n == number (codes "STANDARD-OBJECT")) || nat_le t.predefined n

-- the class of a class
abbrev pub class_of_class : Table → ℕ → ℕ
class_of_class t n = if is_standard t n then number (codes "STANDARD-CLASS") else number (codes "BUILT-IN-CLASS")
