-- The classes that a definition touches.
use Rattle.std.specs.Prelude.{◌≡◌, ℕ, true, false, length, ◌==◌, ◌<◌, Bool, ◌&&◌, ◌||◌, List, [], ◌∷◌, if◌then◌else◌}
use Rattle.clos_precedence.specs.Precedence.{has}
use Rattle.clos_hierarchy.specs.Classes.{Classes, is_broken, is_lacking, list_in}
use Rattle.clos_hierarchy.specs.Table.{is_other}
use Rattle.lisp_data.specs.declared.ids.ClassId.{ClassId}
use Rattle.clos_hierarchy.specs.declared.kept.Kept.{Kept}
use Rattle.clos_hierarchy.specs.inner.Below.{below_at}
use Rattle.clos_hierarchy.specs.inner.Direct.{Index}
use Rattle.clos_hierarchy.specs.inner.Kept.{Ends, Keeps}
use Rattle.clos_hierarchy.specs.inner.KeptView.{kept_at, listing_at, listing_of}
use Rattle.clos_hierarchy.specs.inner.Woken.{Asleep, Sleeps}

-- each number is below those after it
abbrev pub Ascends : List ℕ → Type 0
Ascends [] = Unit {0}
Ascends (x ∷ xs) = ((y : ℕ) → has xs y ≡ true → x < y) × Ascends xs

-- whether this is the first of these
abbrev pub begins_with : List ℕ → ℕ → Bool
begins_with [] n = false
begins_with (x ∷ xs) n = x == n

-- those among these that have the class c in their lists
abbrev pub have_it : List Kept → ℕ → List ℕ → ℕ → Bool
have_it ks c ns n = has ns n && has (list_in (listing_at ks n)) c

-- the class itself, those of which something is said once it is defined, which these are, and those that have it in their lists, as is
-- noted
abbrev pub is_touched : List Kept → List ℕ → List (List ℕ) → ℕ → ℕ → Bool
is_touched ks woken rows c n = c == n || (has woken n || have_it ks c (below_at rows c) n)

-- these are the classes that are touched where the class c was defined
pub record Touches (to : Classes) (ks : List Kept) (d : Index) (rows : List (List ℕ)) (c : ℕ) (ps : List ℕ) : Type 0 where
  pub woken : List ℕ
  pub within : (n : ℕ) → has woken n ≡ true → n < length to.names
  pub waited : (n : ℕ) → has woken n ≡ true → is_lacking (listing_at ks n) ≡ true
  pub sleep : Asleep to (listing_at ks) d c → (n : ℕ) → Sleeps to (listing_at ks) woken n
  pub members : (n : ℕ) → has ps n ≡ is_touched ks woken rows c n
  pub ordered : Ascends ps

-- what is kept of all others stays
abbrev pub OthersStay : List ℕ → List Kept → List Kept → Type 0
OthersStay ns old new = (length new ≡ length old) × ((n : ℕ) → has ns n ≡ false → kept_at new n ≡ kept_at old n)

-- these are the numbers of classes of which something is kept
abbrev pub AreWithin : List ℕ → List Kept → Type 0
AreWithin ns ks = (n : ℕ) → has ns n ≡ true → n < length ks

-- nothing more is found of any of these
abbrev pub AllEnd : Classes → List Kept → List ℕ → Type 0
AllEnd cs ks ns = (n : ℕ) → has ns n ≡ true → Ends cs ks n

-- nothing more is found of any other
abbrev pub EndElse : Classes → List ℕ → List Kept → Type 0
EndElse cs ns ks = (n : ℕ) → has ns n ≡ false → Ends cs ks n

-- whatever is kept of these, nothing more is found of the others
abbrev pub Closes : Classes → List ℕ → List Kept → Type 0
Closes cs ns ks = (now : List Kept) → OthersStay ns ks now → Keeps cs now → EndElse cs ns now

-- of no class it is said that there is no list
abbrev pub NoneBroken : List Kept → Type 0
NoneBroken ks = (n : ℕ) → is_broken (listing_at ks n) ≡ false

-- of no other class it is said that there is no list
abbrev pub NoneElse : List ℕ → List Kept → Type 0
NoneElse ns ks = (n : ℕ) → has ns n ≡ false → is_broken (listing_at ks n) ≡ false

-- of each class it is noted which classes have it in their lists
abbrev pub AreNoted : List (List ℕ) → List Kept → Type 0
AreNoted rows ks = (n m : ℕ) → has (list_in (listing_at ks n)) m ≡ true → has (below_at rows m) n ≡ true

-- those of these classes that have another list now, a list now, or none any more, where these were kept of them before
abbrev pub others_among : List ClassId → List Kept → List Kept → List ℕ
others_among [] olds ks = []
others_among (c ∷ cs) [] ks = []
others_among (c ∷ cs) (o ∷ os) ks = if is_other (listing_of o) (listing_at ks c.0) then c.0 ∷ others_among cs os ks else others_among cs os ks
