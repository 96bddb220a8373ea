-- Before a class is defined, no other class of which nothing is said is ready.
use Rattle.std.proofs.Common.{◌≡◌, ◌⊎◌, inl, inr, ℕ, suc, ◌==◌, ◌<◌, ◌≤◌, ◌++◌, Bool, true, false, true≢false, List, [], ◌∷◌, Option, Some, None, length, arith, refl, ap, sym, subst, ◌∙◌}
use Rattle.std.specs.Prelude.{not, ◌&&◌, ◌||◌, is_some, nat_lt, option_to_list}
use Rattle.std.specs.List.{list_any}
use Rattle.std.proofs.lemmas.Bool.{eq-eqb, eqb-true, lt-ltb, ltb-false, ltb-true}
use Rattle.lisp_data.specs.Name.{Name, same_name}
use Rattle.clos_precedence.specs.Precedence.{has}
use Rattle.clos_precedence.proofs.Truth.{and_left, and_right, both}
use Rattle.clos_precedence.proofs.Members.{has_first}
use Rattle.clos_hierarchy.specs.Classes.{Classes, Listing, lacking, are_defined, defined, is_based, is_lacking, listing, named, names_above, superclasses}
use Rattle.clos_hierarchy.specs.Ways.{HasNoBase, IsSelfOrAbove, IsSuperclass, Series}
use Rattle.clos_hierarchy.specs.declared.kept.Kept.{Kept}
use Rattle.clos_hierarchy.specs.inner.Direct.{AreDirect, Index}
use Rattle.clos_hierarchy.specs.inner.Exchange.{IsPlace}
use Rattle.clos_hierarchy.specs.inner.Kept.{Changes, Knows}
use Rattle.clos_hierarchy.specs.inner.KeptView.{listing_at, listing_of}
use Rattle.clos_hierarchy.specs.inner.Woken.{Asleep, all_said, is_ready}
use Rattle.clos_hierarchy.proofs.Change.{still_based}
use Rattle.clos_hierarchy.proofs.Filling.{it_lacks}
use Rattle.clos_hierarchy.proofs.Lacking.{finds_lacking}
use Rattle.clos_hierarchy.proofs.Ready.{said}
use Rattle.clos_hierarchy.proofs.Restarted.{past}

-- a number that is that of a class now was so before, or is the new one's
pub longer_by : (c len to n : ℕ) (b : Bool) → nat_lt n len ≡ b → IsPlace c len to → n < to → (n < len) ⊎ (c ≡ n)
longer_by c len to n true e i l = inl (ltb-true n len e)
longer_by c len to n false e (inl h) l = let q : to ≡ len = h.0 in inl (omega (arith, q, l))
longer_by c len to n false e (inr h) l =
    let q : to ≡ suc len = h.0 in
    let r : c ≡ len = h.1 in
    let s : len ≤ n = ltb-false n len e in inr (omega (arith, q, r, s, l))

-- a direct superclass that is lacking
abbrev Lacks : Classes → ℕ → Type 0
Lacks cs n = (s : ℕ) × (has (superclasses cs n) s ≡ true) × (listing cs s ≡ lacking)

lacks_above : (cs : Classes) (n m : ℕ) (xs : List ℕ) → Series cs n xs m → HasNoBase cs m → Lacks cs n
lacks_above cs n m [] s b = (m, s, (finds_lacking cs m).1 (m, inl refl, b))
lacks_above cs n m (y ∷ ys) s b = (y, s.0, (finds_lacking cs y).1 (m, inr (ys, s.1), b))

-- a class that is lacking, though all its direct superclasses are defined, has one that is so too
lacks_by : (cs : Classes) (n m : ℕ) → is_based cs n ≡ true → IsSelfOrAbove cs n m → HasNoBase cs m → Lacks cs n
lacks_by cs n m h (inl e) (inl b) = absurd (true≢false (sym h ∙ subst (λ v. is_based cs v ≡ false) (sym e) b))
lacks_by cs n m h (inl e) (inr q) = let p : IsSuperclass cs n m = subst (λ v. IsSuperclass cs v m) (sym e) q in lacks_above cs n m p.0 p.1 (inr q)
lacks_by cs n m h (inr p) b = lacks_above cs n m p.0 p.1 b

lacks : (cs : Classes) (n : ℕ) → is_based cs n ≡ true → listing cs n ≡ lacking → Lacks cs n
lacks cs n h l = let q : (m : ℕ) × IsSelfOrAbove cs n m × HasNoBase cs m = (finds_lacking cs n).0 l in lacks_by cs n q.0 h q.1 q.2

module _ (cs to : Classes) (c : ℕ) (ks : List Kept) (k : Knows cs ks) (m : Changes cs to c) (i : IsPlace c (length ks) (length to.names)) where
  abbrev of : ℕ → Listing
  of = listing_at ks

  there_by : (x : ℕ) (b : Bool) → nat_lt x (length ks) ≡ b → is_lacking (of x) ≡ false → x < length ks
  there_by x true e h = ltb-true x (length ks) e
  there_by x false e h = absurd (true≢false (ap (λ v. is_lacking (listing_of v)) (sym (past ks x (ltb-false x (length ks) e))) ∙ h))

  -- where something is said of the class of a name, it had the name before
  was_named : (x : Name) (j : ℕ) (b : Bool) → (c == j) ≡ b → named to x ≡ Some j → is_lacking (of j) ≡ false → named cs x ≡ Some j
  was_named x j true e h l =
      let q : c ≡ j = eqb-true c j e in
      let a : j < length ks = there_by j (nat_lt j (length ks)) refl l in
      let n : length ks ≡ length cs.names = k.length in
      subst (λ v. named cs x ≡ Some v) q (m.back x (subst (λ v. named to x ≡ Some v) (sym q) h) (omega (arith, q, a, n)))
  was_named x j false e h l = m.others x j h e

  not_missing_by : (x : Name) (xs : List Name) (o : Option ℕ) → named to x ≡ o → (is_some o && are_defined to xs) ≡ true → all_said of [] (option_to_list o ++ defined to xs) ≡ true
      → (are_defined to xs ≡ true → all_said of [] (defined to xs) ≡ true → are_defined cs xs ≡ true) → are_defined cs (x ∷ xs) ≡ true
  not_missing_by x xs None e h a r = absurd (true≢false (sym h))
  not_missing_by x xs (Some j) e h a r =
      let l : is_lacking (of j) ≡ false = said of (j ∷ defined to xs) j a (has_first j (defined to xs)) in
      both (is_some (named cs x)) (are_defined cs xs) (ap is_some (was_named x j (c == j) refl e l)) (r h (and_right (not (is_lacking (of j)) || false) (all_said of [] (defined to xs)) a))

  -- where something is said of all classes of these names, they were defined before
  not_missing : (xs : List Name) → are_defined to xs ≡ true → all_said of [] (defined to xs) ≡ true → are_defined cs xs ≡ true
  not_missing [] h a = refl
  not_missing (x ∷ xs) h a = not_missing_by x xs (named to x) refl h a (λ g b. not_missing xs g b)

  module _ (n : ℕ) (e : (c == n) ≡ false) (l : is_lacking (of n) ≡ true) (r : is_ready to of [] n ≡ true) where
    based : is_based to n ≡ true
    based = and_left (is_based to n) (all_said of [] (superclasses to n)) r

    all : all_said of [] (superclasses to n) ≡ true
    all = and_right (is_based to n) (all_said of [] (superclasses to n)) r

    before : (n < length ks) ⊎ (c ≡ n) → n < length cs.names
    before (inl h) = let q : length ks ≡ length cs.names = k.length in omega (arith, h, q)
    before (inr h) = absurd (true≢false (sym (eq-eqb c n h) ∙ e))

    based_before : is_based cs n ≡ true
    based_before =
        let q : n < length to.names = ltb-true n (length to.names) (and_left (nat_lt n (length to.names)) (are_defined to (names_above to n)) based) in
        both (nat_lt n (length cs.names)) (are_defined cs (names_above cs n))
        (lt-ltb n (length cs.names) (before (longer_by c (length ks) (length to.names) n (nat_lt n (length ks)) refl i q)))
        (subst (λ v. are_defined cs v ≡ true) (m.rows n e)
        (not_missing (names_above to n) (and_right (nat_lt n (length to.names)) (are_defined to (names_above to n)) based) all))

    never : ⊥
    never =
        let q : Lacks cs n = lacks cs n based_before (sym (k.same n) ∙ it_lacks (of n) l) in
        let s : superclasses to n ≡ superclasses cs n = (still_based cs to c n m e based_before).0 in
        true≢false (sym (ap is_lacking (k.same q.0 ∙ q.2)) ∙ said of (superclasses to n) q.0 all (subst (λ v. has v q.0 ≡ true) (sym s) q.1))

  sleep_by : (n : ℕ) (b : Bool) → is_ready to of [] n ≡ b → (c == n) ≡ false → is_lacking (of n) ≡ true → b ≡ false
  sleep_by n true r e l = absurd (never n e l r)
  sleep_by n false r e l = refl

  pub asleep : (d : Index) → AreDirect cs d → Asleep to of d c
  asleep d a = record {
    sleep = λ n e l h. sleep_by n (is_ready to of [] n) refl e l;
    direct = λ n x e h. a n x (subst (λ v. list_any (same_name x) v ≡ true) (m.rows n e) h);
  }
