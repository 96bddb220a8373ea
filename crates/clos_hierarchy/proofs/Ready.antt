-- Classes that are ready, so that something is said of them.
use Rattle.std.proofs.Common.{◌≡◌, ◌⊎◌, inl, inr, ℕ, ◌==◌, ◌++◌, Bool, true, false, true≢false, List, [], ◌∷◌, Option, Some, None, refl, sym, ap, ◌∙◌}
use Rattle.std.specs.Prelude.{not, ◌&&◌, ◌||◌, option_to_list, is_some, if◌then◌else◌}
use Rattle.std.proofs.lemmas.Bool.{eq-eqb}
use Rattle.lisp_data.specs.Name.{Name}
use Rattle.clos_precedence.specs.Precedence.{has}
use Rattle.clos_precedence.proofs.Truth.{and_left, and_right, both, kept_or, neither}
use Rattle.clos_precedence.proofs.Members.{first_or_later, has_first, has_later}
use Rattle.clos_hierarchy.specs.Classes.{Classes, Listing, lacking, all_above, are_defined, defined, found, in_order, is_based, is_lacking, named, superclasses}
use Rattle.clos_hierarchy.specs.inner.Woken.{all_said, is_ready}

-- ---- as the code finds it

-- whether all these names are those of classes of which something is said
abbrev pub are_said : Classes → (ℕ → Listing) → List ℕ → List Name → Bool
are_said cs of woken xs = are_defined cs xs && all_said of woken (defined cs xs)

abbrev by_first : Classes → (ℕ → Listing) → List ℕ → Option ℕ → List Name → Bool
by_first cs of woken o xs = (is_some o && are_defined cs xs) && all_said of woken (option_to_list o ++ defined cs xs)

first_is : (cs : Classes) (of : ℕ → Listing) (woken : List ℕ) (x : Name) (xs : List Name) (o : Option ℕ) → o ≡ named cs x → are_said cs of woken (x ∷ xs) ≡ by_first cs of woken o xs
first_is cs of woken x xs o e = ap (λ v. by_first cs of woken v xs) (sym e)

not_this : (a b c : Bool) → b ≡ false → (a && (b && c)) ≡ false
not_this true b c h = ap (λ v. v && c) h
not_this false b c h = refl

this_one : (a b c : Bool) → b ≡ true → (a && (b && c)) ≡ (a && c)
this_one a b c h = ap (λ v. a && (v && c)) h

pub ready_on : (cs : Classes) (of : ℕ → Listing) (woken : List ℕ) (x : Name) (xs : List Name) (i : ℕ) → Some i ≡ named cs x → (not (is_lacking (of i)) || has woken i) ≡ true
    → are_said cs of woken (x ∷ xs) ≡ are_said cs of woken xs
ready_on cs of woken x xs i e h = first_is cs of woken x xs (Some i) e ∙ this_one (are_defined cs xs) (not (is_lacking (of i)) || has woken i) (all_said of woken (defined cs xs)) h

pub not_defined : (cs : Classes) (of : ℕ → Listing) (woken : List ℕ) (x : Name) (xs : List Name) → None ≡ named cs x → are_said cs of woken (x ∷ xs) ≡ false
not_defined cs of woken x xs e = first_is cs of woken x xs None e

pub not_said : (cs : Classes) (of : ℕ → Listing) (woken : List ℕ) (x : Name) (xs : List Name) (i : ℕ) → Some i ≡ named cs x → (not (is_lacking (of i)) || has woken i) ≡ false
    → are_said cs of woken (x ∷ xs) ≡ false
not_said cs of woken x xs i e h = first_is cs of woken x xs (Some i) e ∙ not_this (are_defined cs xs) (not (is_lacking (of i)) || has woken i) (all_said of woken (defined cs xs)) h

-- a class among these of which nothing is said, and which is not among the woken ones
pub record Missing (of : ℕ → Listing) (ws xs : List ℕ) : Type 0 where
  pub number : ℕ
  pub among : has xs number ≡ true
  pub lacks : is_lacking (of number) ≡ true
  pub asleep : has ws number ≡ false

-- ---- by more woken ones, and by fewer

module _ (of : ℕ → Listing) where
  more_said : (ws vs xs : List ℕ) → ((x : ℕ) → has ws x ≡ true → has vs x ≡ true) → all_said of ws xs ≡ true → all_said of vs xs ≡ true
  more_said ws vs [] f h = refl
  more_said ws vs (x ∷ xs) f h =
      both (not (is_lacking (of x)) || has vs x) (all_said of vs xs)
      (kept_or (not (is_lacking (of x))) (has ws x) (has vs x) (and_left (not (is_lacking (of x)) || has ws x) (all_said of ws xs) h) (f x))
      (more_said ws vs xs f (and_right (not (is_lacking (of x)) || has ws x) (all_said of ws xs) h))

  -- one of the woken ones that is not among these is not needed
  less_said : (w : ℕ) (ws vs xs : List ℕ) → ((x : ℕ) → has vs x ≡ true → (w ≡ x) ⊎ (has ws x ≡ true)) → has xs w ≡ false → all_said of vs xs ≡ true → all_said of ws xs ≡ true
  less_said w ws vs [] f n h = refl
  less_said w ws vs (x ∷ xs) f n h =
      both (not (is_lacking (of x)) || has ws x) (all_said of ws xs)
      (kept_or (not (is_lacking (of x))) (has vs x) (has ws x) (and_left (not (is_lacking (of x)) || has vs x) (all_said of vs xs) h) (λ k. by (f x k)))
      (less_said w ws vs xs f (neither (x == w) (has xs w) n).1 (and_right (not (is_lacking (of x)) || has vs x) (all_said of vs xs) h))
    where
      by : (w ≡ x) ⊎ (has ws x ≡ true) → has ws x ≡ true
      by (inl e) = absurd (true≢false (sym (eq-eqb x w (sym e)) ∙ (neither (x == w) (has xs w) n).0))
      by (inr k) = k

  not_more_by : (cs : Classes) (ws vs : List ℕ) (n : ℕ) (b : Bool) → is_ready cs of ws n ≡ b → ((x : ℕ) → has ws x ≡ true → has vs x ≡ true) → is_ready cs of vs n ≡ false → b ≡ false
  not_more_by cs ws vs n true e f h =
      absurd (true≢false (sym
      (both (is_based cs n) (all_said of vs (superclasses cs n)) (and_left (is_based cs n) (all_said of ws (superclasses cs n)) e)
      (more_said ws vs (superclasses cs n) f (and_right (is_based cs n) (all_said of ws (superclasses cs n)) e))) ∙ h))
  not_more_by cs ws vs n false e f h = refl

  -- what is not ready by these is not so by some of them
  pub not_ready : (cs : Classes) (ws vs : List ℕ) (n : ℕ) → ((x : ℕ) → has ws x ≡ true → has vs x ≡ true) → is_ready cs of vs n ≡ false → is_ready cs of ws n ≡ false
  not_ready cs ws vs n f h = not_more_by cs ws vs n (is_ready cs of ws n) refl f h

  not_less_by : (cs : Classes) (w : ℕ) (ws vs : List ℕ) (n : ℕ) (b : Bool) → is_ready cs of vs n ≡ b → ((x : ℕ) → has vs x ≡ true → (w ≡ x) ⊎ (has ws x ≡ true)) → has (superclasses cs n) w ≡ false
      → is_ready cs of ws n ≡ false → b ≡ false
  not_less_by cs w ws vs n true e f g h =
      absurd (true≢false (sym
      (both (is_based cs n) (all_said of ws (superclasses cs n)) (and_left (is_based cs n) (all_said of vs (superclasses cs n)) e)
      (less_said w ws vs (superclasses cs n) f g (and_right (is_based cs n) (all_said of vs (superclasses cs n)) e))) ∙ h))
  not_less_by cs w ws vs n false e f g h = refl

  -- nor by one more that is no direct superclass
  pub not_ready_by : (cs : Classes) (w : ℕ) (ws vs : List ℕ) (n : ℕ) → ((x : ℕ) → has vs x ≡ true → (w ≡ x) ⊎ (has ws x ≡ true)) → has (superclasses cs n) w ≡ false → is_ready cs of ws n ≡ false
      → is_ready cs of vs n ≡ false
  not_ready_by cs w ws vs n f g h = not_less_by cs w ws vs n (is_ready cs of vs n) refl f g h

  -- ---- why a class is not ready

  lacks_by : (a b : Bool) → (not a || b) ≡ false → (a ≡ true) × (b ≡ false)
  lacks_by true b h = (refl, h)
  lacks_by false b h = absurd (true≢false h)

  missing_later : (ws xs : List ℕ) (x : ℕ) → Missing of ws xs → Missing of ws (x ∷ xs)
  missing_later ws xs x m = record { number = m.number; among = has_later x m.number xs m.among; lacks = m.lacks; asleep = m.asleep }

  missing_by : (ws xs : List ℕ) (x : ℕ) (b : Bool) → (not (is_lacking (of x)) || has ws x) ≡ b → all_said of ws (x ∷ xs) ≡ false → (all_said of ws xs ≡ false → Missing of ws xs) → Missing of ws (x ∷ xs)
  missing_by ws xs x true e h r = missing_later ws xs x (r (sym (ap (λ v. v && all_said of ws xs) e) ∙ h))
  missing_by ws xs x false e h r =
      let l : (is_lacking (of x) ≡ true) × (has ws x ≡ false) = lacks_by (is_lacking (of x)) (has ws x) e in
      record { number = x; among = has_first x xs; lacks = l.0; asleep = l.1 }

  missing : (ws xs : List ℕ) → all_said of ws xs ≡ false → Missing of ws xs
  missing ws [] h = absurd (true≢false h)
  missing ws (x ∷ xs) h = missing_by ws xs x (not (is_lacking (of x)) || has ws x) refl h (λ k. missing ws xs k)

  pub why_not : (cs : Classes) (ws : List ℕ) (n : ℕ) → is_ready cs of ws n ≡ false → (is_based cs n ≡ false) ⊎ Missing of ws (superclasses cs n)
  why_not cs ws n h = by (is_based cs n) refl
    where
      by : (b : Bool) → is_based cs n ≡ b → (is_based cs n ≡ false) ⊎ Missing of ws (superclasses cs n)
      by true e = inr (missing ws (superclasses cs n) (sym (ap (λ v. v && all_said of ws (superclasses cs n)) e) ∙ h))
      by false e = inl e

  not_lacking : (a : Bool) → (not a || false) ≡ true → a ≡ false
  not_lacking true e = absurd (true≢false (sym e))
  not_lacking false e = refl

  said_by : (y : ℕ) (ys : List ℕ) (x : ℕ) → all_said of [] (y ∷ ys) ≡ true → (y ≡ x) ⊎ (has ys x ≡ true) → (all_said of [] ys ≡ true → has ys x ≡ true → is_lacking (of x) ≡ false) → is_lacking (of x) ≡ false
  said_by y ys x h (inl e) r = ap (λ v. is_lacking (of v)) (sym e) ∙ not_lacking (is_lacking (of y)) (and_left (not (is_lacking (of y)) || false) (all_said of [] ys) h)
  said_by y ys x h (inr k) r = r (and_right (not (is_lacking (of y)) || false) (all_said of [] ys) h) k

  -- something is said of each
  pub said : (xs : List ℕ) (x : ℕ) → all_said of [] xs ≡ true → has xs x ≡ true → is_lacking (of x) ≡ false
  said [] x h k = absurd (true≢false (sym k))
  said (y ∷ ys) x h k = said_by y ys x h (first_or_later y x ys k) (λ g e. said ys x g e)

-- a class that is not based is found to be lacking
pub not_based : (cs : Classes) (of : ℕ → Listing) (n : ℕ) → is_based cs n ≡ false → found cs of n ≡ lacking
not_based cs of n h = ap (λ b. if b then in_order (superclasses cs) n (all_above of (superclasses cs n)) else lacking) h
