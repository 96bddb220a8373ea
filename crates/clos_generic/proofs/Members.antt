-- Lists of numbers, and lists of which one element changes or to which one comes.
use Rattle.std.proofs.Common.{◌≡◌, ◌≢◌, ◌⊎◌, inl, inr, ℕ, zero, suc, ◌<◌, ◌==◌, Bool, true, false, List, [], ◌∷◌, ◌++◌, length, Some, All, refl, ap, sym, ◌∙◌, true≢false, eqb-true, eq-eqb, arith}
use Rattle.std.specs.Prelude.{if◌then◌else◌, slice_get, unwrap_or}
use Rattle.std.specs.List.{list_all}
use Rattle.std.specs.Cmp.{first_so, second_so}
use Rattle.lisp_data.specs.Same.{both_so}
use Rattle.std.proofs.lemmas.Option.{none-some}
use Rattle.clos_generic.specs.Initial.{left_to_right}
use Rattle.clos_generic.specs.Sound.{Each}
use Rattle.clos_generic.specs.Table.{with_changed, without}
use Rattle.clos_method.specs.Laws.{HasNoneTwice, IsMember}

-- ---- what holds of each

pub each_of : {X : Type 0} (P : X → Type 0) (xs : List X) → All P xs → Each P xs
each_of P [] h = tt
each_of P (x ∷ xs) h = (h 0 x (omega arith), each_of P xs (λ k d l. h (suc k) d (omega (arith, l))))

-- ---- numbers in lists

module _ (p : ℕ → Bool) where
  among_others : (b : Bool) (m : ℕ) (ms more : List ℕ) (n : ℕ) → (IsMember more n → IsMember ms n)
      → IsMember (if b then ms else m ∷ more) n → IsMember (m ∷ ms) n
  among_others true m ms more n rest h = inr h
  among_others false m ms more n rest (inl e) = inl e
  among_others false m ms more n rest (inr h) = inr (rest h)

  pub left_over : (ms : List ℕ) (n : ℕ) → IsMember (without p ms) n → IsMember ms n
  left_over [] n h = h
  left_over (m ∷ ms) n h = among_others (p m) m ms (without p ms) n (left_over ms n) h

  once_without : (b : Bool) (m : ℕ) (ms more : List ℕ) → HasNoneTwice (m ∷ ms) → ((n : ℕ) → IsMember more n → IsMember ms n)
      → HasNoneTwice more
      → HasNoneTwice (if b then ms else m ∷ more)
  once_without true m ms more h rest k = h.1
  once_without false m ms more h rest k = (λ e. h.0 (rest m e), k)

  pub left_once : (ms : List ℕ) → HasNoneTwice ms → HasNoneTwice (without p ms)
  left_once [] h = h
  left_once (m ∷ ms) h = once_without (p m) m ms (without p ms) h (left_over ms) (left_once ms h.1)

gone_first : (b : Bool) (k m : ℕ) (ms more : List ℕ) → (m == k) ≡ b → HasNoneTwice (m ∷ ms) → (IsMember more k → ⊥)
    → IsMember (if b then ms else m ∷ more) k → ⊥
gone_first true k m ms more t h rest i = h.0 (member_at ms k m (sym (eqb-true m k t)) i) where
  member_at : (xs : List ℕ) (a b : ℕ) → a ≡ b → IsMember xs a → IsMember xs b
  member_at [] a b e h = h
  member_at (x ∷ xs) a b e (inl q) = inl (q ∙ e)
  member_at (x ∷ xs) a b e (inr q) = inr (member_at xs a b e q)
gone_first false k m ms more t h rest (inl e) = true≢false (sym (eq-eqb m k e) ∙ t)
gone_first false k m ms more t h rest (inr i) = rest i

-- what is taken out of a list that has it once is gone
pub gone : (k : ℕ) (ms : List ℕ) → HasNoneTwice ms → IsMember (without (λ n. n == k) ms) k → ⊥
gone k [] h i = i
gone k (m ∷ ms) h i = gone_first (m == k) k m ms (without (λ n. n == k) ms) refl h (gone k ms h.1) i

pub pushed : (xs : List ℕ) (x n : ℕ) → IsMember (xs ++ x ∷ []) n → IsMember xs n ⊎ (x ≡ n)
pushed [] x n (inl e) = inr e
pushed [] x n (inr h) = absurd h
pushed (y ∷ ys) x n (inl e) = inl (inl e)
pushed (y ∷ ys) x n (inr h) = elim (pushed ys x n h) [ inl k ↦ inl (inr k) | inr k ↦ inr k ]

pub pushed_once : (xs : List ℕ) (x : ℕ) → HasNoneTwice xs → (IsMember xs x → ⊥) → HasNoneTwice (xs ++ x ∷ [])
pushed_once [] x h k = ((λ e. e), tt)
pushed_once (y ∷ ys) x h k =
    (λ e. elim (pushed ys x y e) as (λ _. ⊥) [ inl i ↦ h.0 i | inr i ↦ k (inl (sym i)) ], pushed_once ys x h.1 (λ i. k (inr i)))

before_last : (xs : List ℕ) (x n : ℕ) → IsMember xs n → IsMember (xs ++ x ∷ []) n
before_last [] x n h = elim h [ ]
before_last (y ∷ ys) x n (inl e) = inl e
before_last (y ∷ ys) x n (inr h) = inr (before_last ys x n h)

last : (xs : List ℕ) (x n : ℕ) → x ≡ n → IsMember (xs ++ x ∷ []) n
last [] x n e = inl e
last (y ∷ ys) x n e = inr (last ys x n e)

place_or : (n p : ℕ) (b : Bool) → (n == p) ≡ b → p < suc n → (p < n → IsMember (left_to_right n) p)
    → IsMember (left_to_right n ++ n ∷ []) p
place_or n p true t h rest = last (left_to_right n) n p (eqb-true n p t)
place_or n p false t h rest =
    let apart : n ≢ p = λ e. true≢false (sym (eq-eqb n p e) ∙ t) in before_last (left_to_right n) n p
    (rest (omega (arith, h, apart)))

-- from left to right each place is named
pub each_place : (n p : ℕ) → p < n → IsMember (left_to_right n) p
each_place zero p h = absurd (omega (arith, h))
each_place (suc n) p h = place_or n p (n == p) refl h (each_place n p)

pub all_at : (p : ℕ → Bool) (xs : List ℕ) (n : ℕ) → list_all p xs ≡ true → IsMember xs n → p n ≡ true
all_at p [] n h k = elim k [ ]
all_at p (x ∷ xs) n h (inl e) = ap p (sym e) ∙ first_so (p x) (list_all p xs) h
all_at p (x ∷ xs) n h (inr k) = all_at p xs n (second_so (p x) (list_all p xs) h) k

pub all_of : (p : ℕ → Bool) (xs : List ℕ) → ((n : ℕ) → IsMember xs n → p n ≡ true) → list_all p xs ≡ true
all_of p [] h = refl
all_of p (x ∷ xs) h = both_so (p x) (list_all p xs) (h x (inl refl)) (all_of p xs (λ n i. h n (inr i)))

-- ---- what is at a place

module _ {X : Type 0} where
  pub one_item : (x y : X) → Some x ≡ Some y → x ≡ y
  one_item x y h = ap (λ o. unwrap_or o x) h

  -- where one element has changed
  pub data AtChanged (change : X → X) (n : ℕ) (xs : List X) (i : ℕ) (y : X) : Type 0 where
    here : (x : X) → i ≡ n → slice_get xs i ≡ Some x → y ≡ change x → AtChanged change n xs i y
    elsewhere : i ≢ n → slice_get xs i ≡ Some y → AtChanged change n xs i y

  next_changed : (change : X → X) (n : ℕ) (z : X) (xs : List X) (i : ℕ) (y : X) → AtChanged change n xs i y
      → AtChanged change (suc n) (z ∷ xs) (suc i) y
  next_changed change n z xs i y (here x e h k) = here x (ap suc e) h k
  next_changed change n z xs i y (elsewhere e h) = elsewhere (λ q. e (omega (arith, q))) h

  pub at_changed : (change : X → X) (n : ℕ) (xs : List X) (i : ℕ) (y : X) → slice_get (with_changed change n xs) i ≡ Some y
      → AtChanged change n xs i y
  at_changed change n [] i y h = absurd (none-some y h)
  at_changed change zero (x ∷ xs) zero y h = here x refl refl (sym (one_item (change x) y h))
  at_changed change zero (x ∷ xs) (suc i) y h = elsewhere (λ q. absurd (omega (arith, q))) h
  at_changed change (suc n) (x ∷ xs) zero y h = elsewhere (λ q. absurd (omega (arith, q))) h
  at_changed change (suc n) (x ∷ xs) (suc i) y h = next_changed change n x xs i y (at_changed change n xs i y h)

  -- where there is one more
  pub data AtPushed (xs : List X) (z : X) (i : ℕ) (y : X) : Type 0 where
    of_list : slice_get xs i ≡ Some y → AtPushed xs z i y
    the_last : i ≡ length xs → z ≡ y → AtPushed xs z i y

  next_pushed : (x : X) (xs : List X) (z : X) (i : ℕ) (y : X) → AtPushed xs z i y → AtPushed (x ∷ xs) z (suc i) y
  next_pushed x xs z i y (of_list h) = of_list h
  next_pushed x xs z i y (the_last e h) = the_last (ap suc e) h

  pub at_pushed : (xs : List X) (z : X) (i : ℕ) (y : X) → slice_get (xs ++ z ∷ []) i ≡ Some y → AtPushed xs z i y
  at_pushed [] z zero y h = the_last refl (one_item z y h)
  at_pushed [] z (suc i) y h = absurd (none-some y h)
  at_pushed (x ∷ xs) z zero y h = of_list h
  at_pushed (x ∷ xs) z (suc i) y h = next_pushed x xs z i y (at_pushed xs z i y h)

  pub before_pushed : (xs : List X) (z : X) (i : ℕ) → i < length xs → slice_get (xs ++ z ∷ []) i ≡ slice_get xs i
  before_pushed [] z i h = absurd (omega (arith, h))
  before_pushed (x ∷ xs) z zero h = refl
  before_pushed (x ∷ xs) z (suc i) h = before_pushed xs z i (omega (arith, h))

  pub at_last : (xs : List X) (z : X) → slice_get (xs ++ z ∷ []) (length xs) ≡ Some z
  at_last [] z = refl
  at_last (x ∷ xs) z = at_last xs z
