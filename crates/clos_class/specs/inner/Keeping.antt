-- What is kept of classes: what each has by its class precedence list.
use Rattle.std.specs.Prelude.{◌≡◌, ◌<◌, ℕ, suc, nat_lt, List, [], ◌∷◌, ◌++◌, Option, Some, None, true, false, length, option_map, slice_get, slice_set, unwrap_or, if◌then◌else◌}
use Rattle.std.specs.declared.alloc.Global.{Global}
use Rattle.std.specs.declared.rc.Rc.{Rc}
use Rattle.clos_hierarchy.specs.Classes.{Classes, lacking, list_in, listing}
use Rattle.clos_hierarchy.specs.Outlook.{Outlook}
use Rattle.clos_precedence.specs.Precedence.{has}
use Rattle.clos_class.specs.declared.direct.ClassSlots.{ClassSlots}
use Rattle.clos_class.specs.Slots.{Defaults, DirectSlots, Effective, effective_of}
use Rattle.clos_class.specs.SlotsView.{defaults, direct_slots}

abbrev pub Kept : Type 0
Kept = Option (Rc Effective Global)

abbrev pub kept_at : List Kept → ℕ → Kept
kept_at ks n = unwrap_or (slice_get ks n) None

-- what a class with this class precedence list has; without one it has nothing
abbrev pub effective_if : DirectSlots → Defaults → List ℕ → Option Effective
effective_if of given [] = None
effective_if of given (n ∷ l) = Some (effective_of of given (n ∷ l))

-- what is kept of a class with this class precedence list
pub record Tells (of : DirectSlots) (given : Defaults) (l : List ℕ) (k : Kept) : Type 0 where
  pub kept : option_map (λ e. e.value) k ≡ effective_if of given l

-- what is kept of all classes, which have these lists
abbrev pub TellsAll : List ClassSlots → (ℕ → List ℕ) → List Kept → Type 0
TellsAll rows lists ks = (n : ℕ) → Tells (direct_slots rows) (defaults rows) (lists n) (kept_at ks n)

abbrev pub lists_of : Classes → ℕ → List ℕ
lists_of cs n = list_in (listing cs n)

-- the class precedence list that the class at this place among those that are touched has then
abbrev pub list_then : Outlook → ℕ → List ℕ
list_then o i = list_in (unwrap_or (slice_get o.listings i) lacking)

-- A definition of the class c touches these classes: of all others the class precedence lists stay, and do not have it.
pub record Touches (cs to : Classes) (c : ℕ) (ps : List ℕ) : Type 0 where
  pub within : (n : ℕ) → has ps n ≡ true → n < length to.names
  pub others : (n : ℕ) → has ps n ≡ false → listing to n ≡ listing cs n
  pub free : (n : ℕ) → has ps n ≡ false → has (lists_of cs n) c ≡ false

-- what is kept of each of these classes
abbrev pub TellsEach : DirectSlots → Defaults → (ℕ → List ℕ) → List ℕ → List Kept → Type 0
TellsEach of given lists [] [] = Unit {0}
TellsEach of given lists [] (k ∷ ks) = ⊥
TellsEach of given lists (p ∷ ps) [] = ⊥
TellsEach of given lists (p ∷ ps) (k ∷ ks) = Tells of given (lists p) k × TellsEach of given lists ps ks

-- how many classes there are with this one
abbrev pub len_with : ℕ → ℕ → ℕ
len_with len n = if nat_lt n len then len else suc len

-- with a place for this class, which is the last where it is new
abbrev pub with_place : List Kept → ℕ → List Kept
with_place ks n = if nat_lt n (length ks) then ks else ks ++ None ∷ []

-- with these in these places
abbrev pub put_each : List ℕ → List Kept → List Kept → List Kept
put_each [] new ks = ks
put_each (p ∷ ps) [] ks = ks
put_each (p ∷ ps) (k ∷ new) ks = slice_set (put_each ps new ks) p k
