-- What is kept of classes.
use Rattle.std.specs.Prelude.{◌≡◌, ℕ, ◌==◌, List, [], ◌∷◌, ◌++◌, Option, Some, None, slice_get, slice_set, ◌⊎◌, Bool, true, false, ◌+◌, ◌≤◌, ◌<◌, length, if◌then◌else◌}
use Rattle.std.specs.declared.alloc.Global.{Global}
use Rattle.std.specs.declared.vec.Vec.{Vec}
use Rattle.lisp_data.specs.Name.{Name}
use Rattle.clos_hierarchy.specs.declared.kept.Kept.{Kept}
use Rattle.clos_precedence.specs.Precedence.{has}
use Rattle.clos_hierarchy.specs.Classes.{Classes, Listing, lacking, broken, listed, found, superclasses, is_lacking, is_broken, listing_within, listing, named, names_above}
use Rattle.clos_hierarchy.specs.Ways.{IsSuperclass, IsWhole}
use Rattle.clos_hierarchy.specs.inner.KeptView.{listing_of, listing_at, kept_above, kept_at}

-- what the classes were before this one came last, or got these direct superclasses in place of others
abbrev pub WasBefore : Option (Vec Name Global) → Classes → Classes → ℕ → Name → List Name → Type 0
WasBefore None cs to n name above = to ≡ record { names = cs.names ++ name ∷ []; above = cs.above ++ above ∷ [] }
WasBefore (Some replaced) cs to n name above = (to ≡ record cs { above = slice_set cs.above n above }) × (slice_get cs.above n ≡ Some replaced.items)

-- the second says at least what the first says
abbrev pub More : Listing → Listing → Type 0
More a b = (a ≡ lacking) ⊎ (a ≡ b)

-- more is found than is said
abbrev pub Sound : Classes → (ℕ → Listing) → Type 0
Sound cs of = (n : ℕ) → More (of n) (found cs of n)

abbrev pub AreWhole : Classes → (ℕ → Listing) → Type 0
AreWhole cs of = (n : ℕ) (l : List ℕ) → of n ≡ listed l → IsWhole cs n l

-- a list whose members are all in the other
abbrev pub Within : List ℕ → List ℕ → Type 0
Within xs ys = (x : ℕ) → has xs x ≡ true → has ys x ≡ true

abbrev pub ListWithin : (ℕ → Listing) → ℕ → List ℕ → Type 0
ListWithin of s l = (m : List ℕ) × (of s ≡ listed m) × Within m l

-- with a list, all its members have theirs
abbrev pub AreNested : (ℕ → Listing) → Type 0
AreNested of = (n : ℕ) (l : List ℕ) (x : ℕ) → of n ≡ listed l → has l x ≡ true → ListWithin of x l

-- With a list, the direct superclasses are kept.
abbrev pub IsAbove : Kept → List ℕ → Type 0
IsAbove k xs = (l : List ℕ) → listing_of k ≡ listed l → kept_above k ≡ xs

abbrev pub AreAbove : Classes → List Kept → Type 0
AreAbove cs ks = (n : ℕ) → IsAbove (kept_at ks n) (superclasses cs n)

-- these are the direct superclasses of the class n: one, which has this list, in which n is not
abbrev pub IsSingle : (ℕ → Listing) → ℕ → List ℕ → List ℕ → Type 0
IsSingle of n xs l = (s : ℕ) × (xs ≡ s ∷ []) × (of s ≡ listed l) × (has l n ≡ false)

-- what is kept of the classes is so, though more may be found
pub record Keeps (cs : Classes) (ks : List Kept) : Type 0 where
  pub sound : Sound cs (listing_at ks)
  pub whole : AreWhole cs (listing_at ks)
  pub nested : AreNested (listing_at ks)
  pub above : AreAbove cs ks

-- all that there is to say of the classes is kept
pub record Knows (cs : Classes) (ks : List Kept) : Type 0 where
  pub keeps : Keeps cs ks
  pub same : (n : ℕ) → listing_at ks n ≡ listing cs n
  pub length : length ks ≡ length cs.names

-- no class is its own superclass, and of none it is said that there is no list
pub record IsConsistent (cs : Classes) : Type 0 where
  pub no_circle : (n : ℕ) → IsSuperclass cs n n → ⊥
  pub no_broken : (n : ℕ) → is_broken (listing cs n) ≡ false

-- ---- on the way there

abbrev pub lacking_in : List Kept → ℕ
lacking_in [] = 0
lacking_in (k ∷ ks) = (if is_lacking (listing_of k) then 1 else 0) + lacking_in ks

-- what is kept is found in so many rounds, and for each class of which nothing is said there is one more
pub record Progress (cs : Classes) (ks : List Kept) : Type 0 where
  pub keeps : Keeps cs ks
  pub rounds : ℕ
  pub reached : (n : ℕ) → More (listing_at ks n) (listing_within rounds cs n)
  pub room : rounds + lacking_in ks ≤ length cs.names + length cs.names
  pub length : length ks ≡ length cs.names

-- nothing more is found of this class
abbrev pub Ends : Classes → List Kept → ℕ → Type 0
Ends cs ks n = listing_at ks n ≡ lacking → found cs (listing_at ks) n ≡ lacking

-- the second says at least what the first says, of each class
abbrev pub Adds : List Kept → List Kept → Type 0
Adds old new = (n : ℕ) → More (listing_at old n) (listing_at new n)

-- whether something more was found
abbrev pub Filled : Bool → Classes → List Kept → List Kept → Type 0 → Type 0
Filled true cs old new End = (lacking_in new < lacking_in old) × (length new ≡ length old) × (Progress cs old → Progress cs new) × Adds old new
Filled false cs old new End = (new ≡ old) × (Keeps cs old → End)

-- ---- where a class is defined again, or at last

-- a list that does not have this class
abbrev pub without : ℕ → Listing → Listing
without c lacking = lacking
without c broken = lacking
without c (listed l) = if has l c then lacking else listed l

-- what is kept of the classes that do not have this one among their superclasses
abbrev pub Restarts : ℕ → List Kept → List Kept → Type 0
Restarts c old new =
    (n : ℕ) → (listing_at new n ≡ without c (listing_at old n)) × ((l : List ℕ) → listing_at new n ≡ listed l → kept_above (kept_at new n) ≡ kept_above (kept_at old n))

-- the classes after this one changed, or came last
pub record Changes (cs to : Classes) (c : ℕ) : Type 0 where
  pub rows : (k : ℕ) → (c == k) ≡ false → names_above to k ≡ names_above cs k
  pub numbers : (x : Name) (i : ℕ) → named cs x ≡ Some i → named to x ≡ Some i
  pub others : (x : Name) (i : ℕ) → named to x ≡ Some i → (c == i) ≡ false → named cs x ≡ Some i
  pub back : (x : Name) → named to x ≡ Some c → c < length cs.names → named cs x ≡ Some c
  pub more : length cs.names ≤ length to.names
