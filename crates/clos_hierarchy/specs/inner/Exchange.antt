-- What is kept of some classes, in the place of what was kept.
use Rattle.std.specs.Prelude.{◌≡◌, ◌⊎◌, ◌<◌, ◌≤◌, ℕ, suc, true, false, List, [], ◌∷◌, ◌++◌, length, map, nat_lt, slice_set, if◌then◌else◌}
use Rattle.clos_precedence.specs.Precedence.{has}
use Rattle.clos_hierarchy.specs.Classes.{list_in}
use Rattle.clos_hierarchy.specs.declared.kept.Kept.{Kept}
use Rattle.clos_hierarchy.specs.declared.kept.Kept.TheVariants.{Lacking}
use Rattle.clos_hierarchy.specs.inner.KeptView.{kept_at, listing_at}
use Rattle.clos_hierarchy.specs.inner.Touched.{AreWithin, Ascends}

-- what is kept after these are put in these places, one after another
abbrev pub put_all : List ℕ → List Kept → List Kept → List Kept
put_all [] new ks = ks
put_all (p ∷ ps) [] ks = ks
put_all (p ∷ ps) (k ∷ new) ks = put_all ps new (slice_set ks p k)

-- what stood in each place before
abbrev pub replaced : List ℕ → List Kept → List Kept → List Kept
replaced [] new ks = []
replaced (p ∷ ps) [] ks = []
replaced (p ∷ ps) (k ∷ new) ks = kept_at ks p ∷ replaced ps new (slice_set ks p k)

-- so many times that nothing is said
abbrev pub nothing_of : List ℕ → List Kept
nothing_of [] = []
nothing_of (p ∷ ps) = Lacking ∷ nothing_of ps

-- what is kept where nothing is said of these any more
abbrev pub taken_out : List ℕ → List Kept → List Kept
taken_out ps ks = put_all ps (nothing_of ps) ks

-- ---- where a class is defined

-- of so many classes that are kept, and so many that are defined, this one was defined just now: again, or as the last
abbrev pub IsPlace : ℕ → ℕ → ℕ → Type 0
IsPlace c kept defined = ((defined ≡ kept) × (c < kept)) ⊎ ((defined ≡ suc kept) × (c ≡ kept))

-- of a class that is new nothing is said
abbrev pub reached : List Kept → ℕ → List Kept
reached ks len = if nat_lt (length ks) len then ks ++ Lacking ∷ [] else ks

-- What is kept of these classes came in the place of what was kept of them. The class c is among them, and all that have it in their
-- lists.
pub record Replaces (ps : List ℕ) (c : ℕ) (olds ks now : List Kept) : Type 0 where
  pub ordered : Ascends ps
  pub within : AreWithin ps now
  pub own : has ps c ≡ true
  pub free : (n : ℕ) → has ps n ≡ false → has (list_in (listing_at ks n)) c ≡ false
  pub taken : olds ≡ map (kept_at ks) ps
  pub others : (n : ℕ) → has ps n ≡ false → kept_at now n ≡ kept_at ks n
  pub no_shorter : length ks ≤ length now
