-- Of the classes that a definition does not touch nothing more is found.
use Rattle.std.proofs.Common.{◌≡◌, ◌⊎◌, inl, inr, ℕ, ◌==◌, Bool, true, false, true≢false, List, [], refl, ap, sym, subst, ◌∙◌}
use Rattle.std.specs.Prelude.{◌&&◌, ◌||◌}
use Rattle.std.proofs.lemmas.Bool.{eqb-true}
use Rattle.clos_precedence.specs.Precedence.{has}
use Rattle.clos_precedence.proofs.Members.{differs}
use Rattle.clos_precedence.proofs.Truth.{neither, not_either}
use Rattle.clos_hierarchy.specs.Classes.{Classes, lacking, found, is_based, is_circular, is_lacking, list_in, superclasses}
use Rattle.clos_hierarchy.specs.declared.kept.Kept.{Kept}
use Rattle.clos_hierarchy.specs.inner.Below.{below_at}
use Rattle.clos_hierarchy.specs.inner.Kept.{More, Sound}
use Rattle.clos_hierarchy.specs.inner.KeptView.{kept_at, listing_at, listing_of}
use Rattle.clos_hierarchy.specs.inner.Touched.{have_it, is_touched}
use Rattle.clos_hierarchy.specs.inner.Woken.{Sleeps}
use Rattle.clos_hierarchy.proofs.Filling.{it_lacks}
use Rattle.clos_hierarchy.proofs.Lacking.{found_lacks}
use Rattle.clos_hierarchy.proofs.Ready.{Missing, not_based, why_not}
use Rattle.clos_hierarchy.proofs.Ways.{is_circle}

and_none : (a b : Bool) → b ≡ false → (a && b) ≡ false
and_none true b h = h
and_none false b h = refl

-- a class that is not above itself is not directly above itself
pub not_above : (cs : Classes) (c : ℕ) → is_circular cs c ≡ false → has (superclasses cs c) c ≡ false
not_above cs c h = by (has (superclasses cs c) c) refl
  where
    by : (b : Bool) → has (superclasses cs c) c ≡ b → b ≡ false
    by true e = absurd (true≢false (sym (is_circle cs c ([], e)) ∙ h))
    by false e = refl

-- ks was kept, and now is, where something else is kept of the classes that are touched alone
module _ (to : Classes) (ks now : List Kept) (woken ps : List ℕ) (rows : List (List ℕ)) (c : ℕ) (t : (n : ℕ) → has ps n ≡ is_touched ks woken rows c n)
    (same : (n : ℕ) → has ps n ≡ false → kept_at now n ≡ kept_at ks n) (sleep : (n : ℕ) → Sleeps to (listing_at ks) woken n) (sound : Sound to (listing_at now)) (apart : has (superclasses to c) c ≡ false) where
  outside : (s : ℕ) → is_lacking (listing_at ks s) ≡ true → has woken s ≡ false → (c == s) ≡ false → has ps s ≡ false
  outside s l v e =
      t s
      ∙ not_either (c == s) (has woken s || have_it ks c (below_at rows c) s) e
      (not_either (has woken s) (have_it ks c (below_at rows c) s) v
      (and_none (has (below_at rows c) s) (has (list_in (listing_at ks s)) c) (ap (λ a. has (list_in a) c) (it_lacks (listing_at ks s) l))))

  still : (s : ℕ) → is_lacking (listing_at ks s) ≡ true → has woken s ≡ false → (c == s) ≡ false → listing_at now s ≡ lacking
  still s l v e = ap listing_of (same s (outside s l v e)) ∙ it_lacks (listing_at ks s) l

  -- the class that is defined stays lacking where it is not woken
  own : is_lacking (listing_at ks c) ≡ true → has woken c ≡ false → listing_at now c ≡ lacking
  own l v = by (sound c)
    where
      none_found : (is_based to c ≡ false) ⊎ Missing (listing_at ks) woken (superclasses to c) → found to (listing_at now) c ≡ lacking
      none_found (inl b) = not_based to (listing_at now) c b
      none_found (inr m) = found_lacks to (listing_at now) c m.number m.among (still m.number m.lacks m.asleep (differs c m.number (superclasses to c) (c == m.number) refl apart m.among))

      by : More (listing_at now c) (found to (listing_at now) c) → listing_at now c ≡ lacking
      by (inl e) = e
      by (inr e) = e ∙ none_found (why_not (listing_at ks) to woken c (sleep c l v))

  lacks : (s : ℕ) → is_lacking (listing_at ks s) ≡ true → has woken s ≡ false → listing_at now s ≡ lacking
  lacks s l v = by (c == s) refl
    where
      by : (b : Bool) → (c == s) ≡ b → listing_at now s ≡ lacking
      by true e =
          let q : c ≡ s = eqb-true c s e in
          subst (λ z. listing_at now z ≡ lacking) q (own (subst (λ z. is_lacking (listing_at ks z) ≡ true) (sym q) l) (subst (λ z. has woken z ≡ false) (sym q) v))
      by false e = still s l v e

  pub ends : (n : ℕ) → has ps n ≡ false → listing_at now n ≡ lacking → found to (listing_at now) n ≡ lacking
  ends n h i = by (why_not (listing_at ks) to woken n (sleep n l v))
    where
      l : is_lacking (listing_at ks n) ≡ true
      l = ap (λ k. is_lacking (listing_of k)) (sym (same n h)) ∙ ap is_lacking i

      v : has woken n ≡ false
      v = (neither (has woken n) (have_it ks c (below_at rows c) n) (neither (c == n) (has woken n || have_it ks c (below_at rows c) n) (sym (t n) ∙ h)).1).0

      by : (is_based to n ≡ false) ⊎ Missing (listing_at ks) woken (superclasses to n) → found to (listing_at now) n ≡ lacking
      by (inl b) = not_based to (listing_at now) n b
      by (inr m) = found_lacks to (listing_at now) n m.number m.among (lacks m.number m.lacks m.asleep)
