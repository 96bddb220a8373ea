-- All that are above a class, each met once.
use Rattle.std.proofs.Common.{◌≡◌, ℕ, suc, ◌==◌, ◌≢◌, Bool, true, false, List, [], ◌∷◌, ◌++◌, inl, inr, length, reverse, ◌+◌, ◌<◌, ◌≤◌, arith, refl, sym, subst, ap, ◌∙◌}
use Rattle.std.specs.Prelude.{◌⊎◌, slice_index, if◌then◌else◌}
use Rattle.std.proofs.lemmas.Bool.{eqb-true, eqb-false}
use Rattle.std.proofs.lemmas.List.{reverse-append, get_or_append_left, length-reverse}
use Rattle.std.proofs.Math.Seq.{get_or-append_seam}
use Rattle.lisp_data.specs.Name.{Name}
use Rattle.clos_precedence.specs.Precedence.{has}
use Rattle.clos_precedence.specs.OrderView.{with_seen, with_all_seen}
use Rattle.clos_hierarchy.specs.Classes.{Classes, defined, names_above, superclasses, is_circular}
use Rattle.clos_hierarchy.specs.Ways.{Series, IsSuperclass}
use Rattle.clos_precedence.proofs.Truth.{or_left, or_right, either, nothing, same_truth}
use Rattle.clos_precedence.proofs.Members.{Once, has_first, has_later, first_or_later, no_more, below, length_below, is_below}
use Rattle.clos_precedence.proofs.Meeting.{seen_all}
use Rattle.clos_hierarchy.proofs.Ways.{end_below, is_circle, own_superclass}

-- all that are directly above x are among these
abbrev pub AreAmong : Classes → ℕ → List ℕ → Type 0
AreAmong cs x all = (y : ℕ) → has (superclasses cs x) y ≡ true → has all y ≡ true

-- those directly above the first so many of these are among them; the latest stands first
abbrev pub Followed : Classes → List ℕ → ℕ → Type 0
Followed cs all place = (k : ℕ) → k < place → AreAmong cs (slice_index (reverse all) k) all

-- all these are above n, each once, and those directly above n are among them, and those above the first so many
pub record Climbs (cs : Classes) (n : ℕ) (all : List ℕ) (place : ℕ) : Type 0 where
  pub above : (x : ℕ) → has all x ≡ true → IsSuperclass cs n x
  pub direct : AreAmong cs n all
  pub once : Once all
  pub followed : Followed cs all place

-- ---- those that are met

pub later : (s xs : List ℕ) (x : ℕ) → has s x ≡ true → has (with_all_seen s xs) x ≡ true
later s xs x h = seen_all s xs x ∙ or_left (has s x) (has xs x) h

among : (s xs : List ℕ) (x : ℕ) → has xs x ≡ true → has (with_all_seen s xs) x ≡ true
among s xs x h = seen_all s xs x ∙ or_right (has s x) (has xs x) h

once_by : (s : List ℕ) (x : ℕ) (b : Bool) → has s x ≡ b → Once s → Once (if b then s else x ∷ s)
once_by s x true e o = o
once_by s x false e o = (e, o)

pub once_all : (s xs : List ℕ) → Once s → Once (with_all_seen s xs)
once_all s [] o = o
once_all s (x ∷ xs) o = once_all (with_seen s x) xs (once_by s x (has s x) refl o)

each_by : (P : ℕ → Type 0) (s xs : List ℕ) (x : ℕ) → ((y : ℕ) → has s y ≡ true → P y) → ((y : ℕ) → has xs y ≡ true → P y) → (has s x ≡ true) ⊎ (has xs x ≡ true) → P x
each_by P s xs x f g (inl h) = f x h
each_by P s xs x f g (inr h) = g x h

pub each : (P : ℕ → Type 0) (s xs : List ℕ) → ((y : ℕ) → has s y ≡ true → P y) → ((y : ℕ) → has xs y ≡ true → P y) → (x : ℕ) → has (with_all_seen s xs) x ≡ true → P x
each P s xs f g x h = each_by P s xs x f g (either (has s x) (has xs x) (sym (seen_all s xs x) ∙ h))

-- ---- the class at a place

turned : (x : ℕ) (xs : List ℕ) → reverse (x ∷ xs) ≡ reverse xs ++ x ∷ []
turned x xs = reverse-append (x ∷ []) xs

at_last : (x : ℕ) (xs : List ℕ) → slice_index (reverse (x ∷ xs)) (length xs) ≡ x
at_last x xs =
    ap (λ l. slice_index l (length xs)) (turned x xs)
    ∙ (ap (λ k. slice_index (reverse xs ++ x ∷ []) k) (sym (length-reverse xs)) ∙ get_or-append_seam (reverse xs) x [] 0)

at_earlier : (x : ℕ) (xs : List ℕ) (k : ℕ) → k < length xs → slice_index (reverse (x ∷ xs)) k ≡ slice_index (reverse xs) k
at_earlier x xs k h =
    ap (λ l. slice_index l k) (turned x xs) ∙ get_or_append_left (reverse xs) (x ∷ []) 0 k (subst (λ n. k < n) (sym (length-reverse xs)) h)

pub place_by : (k n : ℕ) (b : Bool) → (k == n) ≡ b → k < suc n → (k ≡ n) ⊎ (k < n)
place_by k n true e h = inl (eqb-true k n e)
place_by k n false e h = let q : k ≢ n = eqb-false k n e in inr (omega (arith, h, q))

there_by : (x : ℕ) (xs : List ℕ) (k : ℕ) → (k ≡ length xs) ⊎ (k < length xs) → (k < length xs → has xs (slice_index (reverse xs) k) ≡ true) → has (x ∷ xs) (slice_index (reverse (x ∷ xs)) k) ≡ true
there_by x xs k (inl e) r = subst (λ v. has (x ∷ xs) v ≡ true) (sym (ap (λ j. slice_index (reverse (x ∷ xs)) j) e ∙ at_last x xs)) (has_first x xs)
there_by x xs k (inr l) r = subst (λ v. has (x ∷ xs) v ≡ true) (sym (at_earlier x xs k l)) (has_later x (slice_index (reverse xs) k) xs (r l))

pub is_there : (s : List ℕ) (k : ℕ) → k < length s → has s (slice_index (reverse s) k) ≡ true
is_there [] k h = absurd (omega (arith, h))
is_there (x ∷ xs) k h = there_by x xs k (place_by k (length xs) (k == length xs) refl h) (λ l. is_there xs k l)

-- the place of a class
abbrev pub Place : List ℕ → ℕ → Type 0
Place s x = (k : ℕ) × (k < length s) × (slice_index (reverse s) k ≡ x)

found_by : (y : ℕ) (s : List ℕ) (x : ℕ) → (y ≡ x) ⊎ (has s x ≡ true) → (has s x ≡ true → Place s x) → Place (y ∷ s) x
found_by y s x (inl e) r = (length s, omega (arith), at_last y s ∙ e)
found_by y s x (inr h) r = let p : Place s x = r h in let l : p.0 < length s = p.1 in (p.0, omega (arith, l), at_earlier y s p.0 l ∙ p.2)

pub found : (s : List ℕ) (x : ℕ) → has s x ≡ true → Place s x
found [] x h = nothing h
found (y ∷ s) x h = found_by y s x (first_or_later y x s h) (λ g. found s x g)

-- where others are met too, a class keeps its place
stays_by : (s : List ℕ) (x k : ℕ) (b : Bool) → k < length s → (k < length (if b then s else x ∷ s)) × (slice_index (reverse (if b then s else x ∷ s)) k ≡ slice_index (reverse s) k)
stays_by s x k true h = (h, refl)
stays_by s x k false h = (omega (arith, h), at_earlier x s k h)

pub stays : (s xs : List ℕ) (k : ℕ) → k < length s → slice_index (reverse (with_all_seen s xs)) k ≡ slice_index (reverse s) k
stays s [] k h = refl
stays s (x ∷ xs) k h =
    let p : (k < length (with_seen s x)) × (slice_index (reverse (with_seen s x)) k ≡ slice_index (reverse s) k) = stays_by s x k (has s x) h in
    stays (with_seen s x) xs k p.0 ∙ p.1

-- ---- one class after another

followed_by : (cs : Classes) (s xs : List ℕ) (place k : ℕ) → (k ≡ place) ⊎ (k < place) → place < length s → AreAmong cs (slice_index (reverse s) place) xs → Followed cs s place
    → AreAmong cs (slice_index (reverse s) k) (with_all_seen s xs)
followed_by cs s xs place k (inl e) l a f = λ y h. among s xs y (a y (subst (λ j. has (superclasses cs (slice_index (reverse s) j)) y ≡ true) e h))
followed_by cs s xs place k (inr g) l a f = λ y h. later s xs y (f k g y h)

followed_next : (cs : Classes) (s xs : List ℕ) (place : ℕ) → place < length s → AreAmong cs (slice_index (reverse s) place) xs → Followed cs s place → Followed cs (with_all_seen s xs) (suc place)
followed_next cs s xs place l a f =
    λ k h.
    subst (λ v. AreAmong cs v (with_all_seen s xs)) (sym (stays s xs k (omega (arith, h, l))))
    (followed_by cs s xs place k (place_by k place (k == place) refl h) l a f)

-- one step further up
series_on : (cs : Classes) (n : ℕ) (xs : List ℕ) (m x : ℕ) → Series cs n xs m → has (superclasses cs m) x ≡ true → Series cs n (xs ++ m ∷ []) x
series_on cs n [] m x s h = (s, h)
series_on cs n (y ∷ ys) m x s h = (s.0, series_on cs y ys m x s.1 h)

further : (cs : Classes) (n m x : ℕ) → IsSuperclass cs n m → has (superclasses cs m) x ≡ true → IsSuperclass cs n x
further cs n m x p h = (p.0 ++ m ∷ [], series_on cs n p.0 m x p.1 h)

pub climbs_first : (cs : Classes) (n : ℕ) (none : List ℕ) (names : List Name) (all : List ℕ) → none ≡ [] → names ≡ names_above cs n → all ≡ with_all_seen none (defined cs names) → Climbs cs n all 0
climbs_first cs n none names all i j e =
    subst (λ v. Climbs cs n v 0) (sym (e ∙ (ap (λ v. with_all_seen v (defined cs names)) i ∙ ap (λ v. with_all_seen [] (defined cs v)) j))) (record {
      above = each (λ x. IsSuperclass cs n x) [] (superclasses cs n) (λ y h. nothing h) (λ y h. ([], h));
      direct = λ y h. among [] (superclasses cs n) y h;
      once = once_all [] (superclasses cs n) tt;
      followed = λ k h. absurd (omega (arith, h));
    })

pub climbs_next : (cs : Classes) (n : ℕ) (s all : List ℕ) (place x : ℕ) (names : List Name) → Climbs cs n s place → place < length s → x ≡ slice_index (reverse s) place
    → names ≡ names_above cs x → all ≡ with_all_seen s (defined cs names) → Climbs cs n all (place + 1)
climbs_next cs n s all place x names c l e j a =
    let m : IsSuperclass cs n x = c.above x (subst (λ v. has s v ≡ true) (sym e) (is_there s place l)) in
    let i : suc place ≡ place + 1 = omega arith in
    subst (λ v. Climbs cs n v (place + 1)) (sym (a ∙ ap (λ v. with_all_seen s (defined cs v)) j)) (subst (λ v. Climbs cs n (with_all_seen s (superclasses cs x)) v) i (record {
      above = each (λ y. IsSuperclass cs n y) s (superclasses cs x) c.above (λ y h. further cs n x y m h);
      direct = λ y h. later s (superclasses cs x) y (c.direct y h);
      once = once_all s (superclasses cs x) c.once;
      followed = followed_next cs s (superclasses cs x) place l (λ y h. subst (λ v. has (superclasses cs v) y ≡ true) (sym e) h) c.followed;
    }))

-- each class is met once, so there are no more than there are classes
pub never_more : (cs : Classes) (n : ℕ) (all : List ℕ) (place : ℕ) → Climbs cs n all place → length all ≤ length cs.names
never_more cs n all place c =
    let p : length all ≤ length (below (length cs.names)) =
    no_more all (below (length cs.names)) c.once (λ x h. let q : IsSuperclass cs n x = c.above x h in is_below (length cs.names) x (end_below cs n q.0 x q.1)) in
    let q : length (below (length cs.names)) ≡ length cs.names = length_below (length cs.names) in
    omega (arith, p, q)

-- ---- at the end

closed : (cs : Classes) (n : ℕ) (all : List ℕ) (place x : ℕ) → Climbs cs n all place → length all ≤ place → has all x ≡ true → AreAmong cs x all
closed cs n all place x c l h =
    let p : Place all x = found all x h in
    let k : p.0 < length all = p.1 in
    subst (λ v. AreAmong cs v all) p.2 (c.followed p.0 (omega (arith, k, l)))

reached : (cs : Classes) (all : List ℕ) (x : ℕ) (xs : List ℕ) (m : ℕ) → ((y : ℕ) → has all y ≡ true → AreAmong cs y all) → AreAmong cs x all → Series cs x xs m → has all m ≡ true
reached cs all x [] m f a s = a m s
reached cs all x (y ∷ ys) m f a s = reached cs all y ys m f (f y (a y s.0)) s.1

pub climbed : (cs : Classes) (n : ℕ) (all : List ℕ) (place : ℕ) → Climbs cs n all place → length all ≤ place → has all n ≡ is_circular cs n
climbed cs n all place c l =
    same_truth (has all n) (is_circular cs n) (λ h. is_circle cs n (c.above n h))
    (λ h. let p : IsSuperclass cs n n = own_superclass cs n h in reached cs all n p.0 n (λ y g. closed cs n all place y c l g) c.direct p.1)
