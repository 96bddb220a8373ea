-- A session's classes, and how one more is defined (HyperSpec 4.3, defclass).
use Rattle.std.specs.Prelude.{ℕ, zero, suc, ◌-◌, Bool, true, false, not, ◌&&◌, ◌||◌, nat_lt, nat_le, List, [], ◌∷◌, ◌++◌, Option, Some, None, codes, length, if◌then◌else◌}
use Rattle.std.specs.List.{list_any}
use Rattle.lisp_data.specs.Numbers.{same_numbers}
use Rattle.lisp_data.specs.Name.{Name, same_name}
use Rattle.clos_hierarchy.specs.Classes.{Classes, Listing, lacking, broken, listed, number_of, with_class, is_circular, is_lacking, is_broken, listing}

pub record Table : Type 0 where
  pub classes : Classes
  pub predefined : ℕ  -- so many stand first, which a program can't define
  pub limit : ℕ  -- so many more there may be

-- why a class can't be defined
pub data Refusal : Type 0 where
  program_error : Refusal
  table_limit : Refusal
  invalid_superclass : Name → Refusal
  superclass_cycle : Refusal
  incomplete_class : Refusal
  inconsistent_precedence : Name → Refusal

abbrev pub when : Bool → Refusal → Option Refusal
when true r = Some r
when false r = None

abbrev pub or_else : Option Refusal → Option Refusal → Option Refusal
or_else None o = o
or_else (Some r) o = Some r

abbrev pub standard_object : Name
standard_object = record { text = codes "STANDARD-OBJECT"; keyword = false }

-- a class without superclasses has STANDARD-OBJECT as its only one
abbrev pub or_standard : List Name → List Name
or_standard [] = standard_object ∷ []
or_standard (x ∷ xs) = x ∷ xs

-- ---- what is wrong by the names alone

abbrev pub is_predefined : Table → Name → Bool
is_predefined t name = nat_lt (number_of t.classes name) t.predefined

abbrev pub has_twice : List Name → Bool
has_twice [] = false
has_twice (x ∷ xs) = list_any (same_name x) xs || has_twice xs

abbrev pub is_full : Table → Name → Bool
is_full t name = not (list_any (same_name name) t.classes.names) && nat_le t.limit (length t.classes.names - t.predefined)

-- the first predefined one that is not STANDARD-OBJECT
abbrev pub invalid_in : Table → List Name → Option Refusal
invalid_in t [] = None
invalid_in t (x ∷ xs) = if is_predefined t x && not (same_name x standard_object) then Some (invalid_superclass x) else invalid_in t xs

abbrev pub misnamed : Table → Name → List Name → Option Refusal
misnamed t name above =
    or_else (when (is_predefined t name || has_twice above) program_error) (or_else (when (is_full t name) table_limit) (invalid_in t above))

-- ---- what is wrong with the classes as they would be

-- the first of these, from this number on, of which there is no list
abbrev pub broken_from : ℕ → List Name → Classes → Option Refusal
broken_from n [] cs = None
broken_from n (x ∷ xs) cs = if is_broken (listing cs n) then Some (inconsistent_precedence x) else broken_from (suc n) xs cs

-- of the class n, whose name this is, and of those below it; whether it has to be complete
abbrev pub out_of_order : Classes → ℕ → Name → Bool → Option Refusal
out_of_order to n name whole =
    or_else (when (whole && is_lacking (listing to n)) incomplete_class)
    (or_else (when (is_broken (listing to n)) (inconsistent_precedence name)) (broken_from 0 to.names to))

abbrev pub misplaced : Classes → ℕ → Name → Bool → Option Refusal
misplaced to n name whole = or_else (when (is_circular to n) superclass_cycle) (out_of_order to n name whole)

-- The class of this name, with these direct superclasses. With shared slots it has to be complete, and where it was complete it
-- has to stay so.
abbrev pub refusal : Table → Name → List Name → Bool → Option Refusal
refusal t name above shared =
    or_else (misnamed t name above)
    (misplaced (with_class t.classes name above) (number_of t.classes name) name (shared || not (is_lacking (listing t.classes (number_of t.classes name)))))

-- ---- lists

abbrev pub list_if : Listing → Option (List ℕ)
list_if lacking = None
list_if broken = None
list_if (listed l) = Some l

abbrev pub is_other : Listing → Listing → Bool
is_other (listed l) (listed m) = not (same_numbers l m)
is_other (listed l) o = true
is_other lacking (listed m) = true
is_other lacking o = false
is_other broken (listed m) = true
is_other broken o = false

-- the classes below this number whose lists differ; one that arises differs
abbrev pub changed_among : ℕ → (ℕ → Listing) → (ℕ → Listing) → List ℕ
changed_among zero of to = []
changed_among (suc n) of to = changed_among n of to ++ (if is_other (of n) (to n) then n ∷ [] else [])

abbrev pub changed : Classes → Classes → List ℕ
changed cs to = changed_among (length to.names) (λ n. listing cs n) (λ n. listing to n)
