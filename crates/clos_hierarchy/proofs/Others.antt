-- The classes whose lists differ, among those that are touched.
use Rattle.std.proofs.Common.{◌≡◌, ◌⊎◌, inl, inr, ℕ, zero, suc, ◌==◌, ◌<◌, ◌++◌, Bool, true, false, true≢false, List, [], ◌∷◌, arith, refl, ap, sym, subst, ◌∙◌}
use Rattle.std.specs.Prelude.{◌||◌, ◌&&◌, map, if◌then◌else◌}
use Rattle.std.specs.List.{filter}
use Rattle.std.proofs.lemmas.Bool.{eqb-true, eqb-false}
use Rattle.clos_precedence.specs.Precedence.{has}
use Rattle.clos_precedence.proofs.Members.{first_or_later, has_first, has_later, in_either, in_first, in_second}
use Rattle.clos_hierarchy.specs.Classes.{Listing}
use Rattle.clos_hierarchy.specs.Table.{changed_among, is_other}
use Rattle.lisp_data.specs.declared.ids.ClassId.{ClassId}
use Rattle.clos_precedence.specs.PrecedenceView.{numbers}
use Rattle.clos_hierarchy.specs.declared.kept.Kept.{Kept}
use Rattle.clos_hierarchy.specs.inner.KeptView.{kept_at, listing_at}
use Rattle.clos_hierarchy.specs.inner.Touched.{Ascends, others_among}

-- ---- two lists of numbers, each below those after it, with the same members are one

least : (x y : ℕ) (xs ys : List ℕ) → Ascends (x ∷ xs) → Ascends (y ∷ ys) → (y ≡ x) ⊎ (has ys x ≡ true) → (x ≡ y) ⊎ (has xs y ≡ true) → x ≡ y
least x y xs ys a b (inl e) i = sym e
least x y xs ys a b (inr h) (inl e) = e
least x y xs ys a b (inr h) (inr k) = let p : y < x = b.0 x h in let q : x < y = a.0 y k in absurd (omega (arith, p, q))

absent : (x : ℕ) (xs : List ℕ) (b : Bool) → has xs x ≡ b → Ascends (x ∷ xs) → b ≡ false
absent x xs true e a = let p : x < x = a.0 x e in absurd (omega (arith, p))
absent x xs false e a = refl

rest_by : (x n : ℕ) (xs ys : List ℕ) (b : Bool) → (x == n) ≡ b → Ascends (x ∷ xs) → Ascends (x ∷ ys) → (b || has xs n) ≡ (b || has ys n) → has xs n ≡ has ys n
rest_by x n xs ys true e a b h =
    subst (λ i. has xs i ≡ has ys i) (eqb-true x n e) (absent x xs (has xs x) refl a ∙ sym (absent x ys (has ys x) refl b))
rest_by x n xs ys false e a b h = h

pub one_list : (xs ys : List ℕ) → Ascends xs → Ascends ys → ((n : ℕ) → has xs n ≡ has ys n) → xs ≡ ys
one_list [] [] a b h = refl
one_list [] (y ∷ ys) a b h = absurd (true≢false (sym (has_first y ys) ∙ sym (h y)))
one_list (x ∷ xs) [] a b h = absurd (true≢false (sym (has_first x xs) ∙ h x))
one_list (x ∷ xs) (y ∷ ys) a b h =
    let e : x ≡ y = least x y xs ys a b (first_or_later y x ys (sym (h x) ∙ has_first x xs)) (first_or_later x y xs (h y ∙ has_first y ys)) in
    let c : Ascends (x ∷ ys) = subst (λ z. Ascends (z ∷ ys)) (sym e) b in
    ap (λ z. z ∷ xs) e ∙ ap (λ l. y ∷ l) (one_list xs ys a.1 b.1 (λ n. rest_by x n xs ys (x == n) refl a c (h n ∙ ap (λ z. z == n || has ys n) (sym e))))

-- ---- those among these that pass a test

module _ (P : ℕ → Bool) where
  has_by : (x n : ℕ) (xs : List ℕ) (b : Bool) → P x ≡ b → has (filter P xs) n ≡ (has xs n && P n) → has (if b then x ∷ filter P xs else filter P xs) n ≡ ((x == n || has xs n) && P n)
  has_by x n xs b e h = at (x == n) b refl e h
    where
      at : (c b : Bool) → (x == n) ≡ c → P x ≡ b → has (filter P xs) n ≡ (has xs n && P n) → has (if b then x ∷ filter P xs else filter P xs) n ≡ ((c || has xs n) && P n)
      at true true q e h = ap (λ c. c || has (filter P xs) n) q ∙ sym (subst (λ i. P i ≡ true) (eqb-true x n q) e)
      at true false q e h = h ∙ none (has xs n) (P n) (subst (λ i. P i ≡ false) (eqb-true x n q) e)
        where
          none : (a d : Bool) → d ≡ false → (a && d) ≡ d
          none true d i = refl
          none false d i = sym i
      at false true q e h = ap (λ c. c || has (filter P xs) n) q ∙ h
      at false false q e h = h

  pub has_filtered : (xs : List ℕ) (n : ℕ) → has (filter P xs) n ≡ (has xs n && P n)
  has_filtered [] n = refl
  has_filtered (x ∷ xs) n = has_by x n xs (P x) refl (has_filtered xs n)

  left_one : (a b : Bool) → (a && b) ≡ true → a ≡ true
  left_one true b h = refl
  left_one false b h = h

  ascends_by : (x : ℕ) (xs : List ℕ) (b : Bool) → Ascends (x ∷ xs) → Ascends (filter P xs) → Ascends (if b then x ∷ filter P xs else filter P xs)
  ascends_by x xs true a r = (λ y h. a.0 y (left_one (has xs y) (P y) (sym (has_filtered xs y) ∙ h)), r)
  ascends_by x xs false a r = r

  pub ascends_filtered : (xs : List ℕ) → Ascends xs → Ascends (filter P xs)
  ascends_filtered [] a = tt
  ascends_filtered (x ∷ xs) a = ascends_by x xs (P x) a (ascends_filtered xs a.1)

-- ---- the classes whose lists differ

pub ascends_end : (xs : List ℕ) (n : ℕ) → Ascends xs → ((y : ℕ) → has xs y ≡ true → y < n) → Ascends (xs ++ n ∷ [])
ascends_end [] n a h = (λ y e. absurd (true≢false (sym e)), tt)
ascends_end (x ∷ xs) n a h = (λ y e. by y (in_either xs (n ∷ []) y e), ascends_end xs n a.1 (λ y e. h y (has_later x y xs e)))
  where
    by : (y : ℕ) → (has xs y ≡ true) ⊎ (has (n ∷ []) y ≡ true) → x < y
    by y (inl e) = a.0 y e
    by y (inr e) = last y (first_or_later n y [] e)
      where
        last : (y : ℕ) → (n ≡ y) ⊎ (has [] y ≡ true) → x < y
        last y (inl q) = subst (λ i. x < i) q (h x (has_first x xs))
        last y (inr q) = absurd (true≢false (sym q))

module _ (of to : ℕ → Listing) where
  abbrev pub differs_at : ℕ → Bool
  differs_at n = is_other (of n) (to n)

  member_by : (N n : ℕ) (b : Bool) → differs_at N ≡ b → (has (changed_among N of to) n ≡ true → (n < N) × (differs_at n ≡ true)) → has (changed_among N of to ++ (if b then N ∷ [] else [])) n ≡ true
      → (n < suc N) × (differs_at n ≡ true)
  member_by N n b e r h = by (in_either (changed_among N of to) (if b then N ∷ [] else []) n h)
    where
      last : (b : Bool) → differs_at N ≡ b → has (if b then N ∷ [] else []) n ≡ true → (n < suc N) × (differs_at n ≡ true)
      last false e i = absurd (true≢false (sym i))
      last true e i = here (first_or_later N n [] i)
        where
          here : (N ≡ n) ⊎ (has [] n ≡ true) → (n < suc N) × (differs_at n ≡ true)
          here (inl q) = (omega (arith, q), subst (λ k. differs_at k ≡ true) q e)
          here (inr q) = absurd (true≢false (sym q))

      by : (has (changed_among N of to) n ≡ true) ⊎ (has (if b then N ∷ [] else []) n ≡ true) → (n < suc N) × (differs_at n ≡ true)
      by (inl i) = let p = r i in let q : n < N = p.0 in (omega (arith, q), p.1)
      by (inr i) = last b e i

  pub is_member : (N n : ℕ) → has (changed_among N of to) n ≡ true → (n < N) × (differs_at n ≡ true)
  is_member zero n h = absurd (true≢false (sym h))
  is_member (suc N) n h = member_by N n (differs_at N) refl (is_member N n) h

  there_by : (N n : ℕ) (b : Bool) → (N == n) ≡ b → n < suc N → differs_at n ≡ true → (n < N → has (changed_among N of to) n ≡ true) → has (changed_among N of to ++ (if differs_at N then N ∷ [] else [])) n ≡ true
  there_by N n true e l d r =
      let q : N ≡ n = eqb-true N n e in
      in_second (changed_among N of to) (if differs_at N then N ∷ [] else []) n
      (subst (λ b. has (if b then N ∷ [] else []) n ≡ true) (sym (subst (λ k. differs_at k ≡ true) (sym q) d)) (subst (λ k. has (N ∷ []) k ≡ true) q (has_first N [])))
  there_by N n false e l d r = in_first (changed_among N of to) (if differs_at N then N ∷ [] else []) n (r (omega (arith, l, eqb-false N n e)))

  pub there : (N n : ℕ) → n < N → differs_at n ≡ true → has (changed_among N of to) n ≡ true
  there zero n l d = absurd (omega (arith, l))
  there (suc N) n l d = there_by N n (N == n) refl l d (λ m. there N n m d)

  ascends_with : (N : ℕ) (b : Bool) → Ascends (changed_among N of to) → Ascends (changed_among N of to ++ (if b then N ∷ [] else []))
  ascends_with N true a = ascends_end (changed_among N of to) N a (λ y h. (is_member N y h).0)
  ascends_with N false a = subst Ascends (sym (no_end (changed_among N of to))) a
    where
      no_end : (xs : List ℕ) → xs ++ [] ≡ xs
      no_end [] = refl
      no_end (x ∷ xs) = ap (λ l. x ∷ l) (no_end xs)

  pub ascends_changed : (N : ℕ) → Ascends (changed_among N of to)
  ascends_changed zero = tt
  ascends_changed (suc N) = ascends_with N (differs_at N) (ascends_changed N)

  same_by : (a b : Bool) → (a ≡ true → b ≡ true) → (b ≡ true → a ≡ true) → a ≡ b
  same_by true true f g = refl
  same_by true false f g = absurd (true≢false (sym (f refl)))
  same_by false true f g = absurd (true≢false (sym (g refl)))
  same_by false false f g = refl

  right_one : (a b : Bool) → (a && b) ≡ true → (a ≡ true) × (b ≡ true)
  right_one true true h = (refl, refl)
  right_one true false h = absurd (true≢false (sym h))
  right_one false b h = absurd (true≢false (sym h))

  -- they are found among those that are touched
  pub changed_touched : (ps : List ℕ) (N : ℕ) → Ascends ps → ((n : ℕ) → has ps n ≡ true → n < N) → ((n : ℕ) → n < N → differs_at n ≡ true → has ps n ≡ true) → filter differs_at ps ≡ changed_among N of to
  changed_touched ps N a w t =
      one_list (filter differs_at ps) (changed_among N of to) (ascends_filtered differs_at ps a) (ascends_changed N)
      (λ n. same_by (has (filter differs_at ps) n) (has (changed_among N of to) n)
      (λ h. let p = right_one (has ps n) (differs_at n) (sym (has_filtered differs_at ps n) ∙ h) in there N n (w n p.0) p.1)
      (λ h. let p = is_member N n h in has_filtered differs_at ps n ∙ both_one (has ps n) (differs_at n) (t n p.0 p.1) p.1))
    where
      both_one : (a b : Bool) → a ≡ true → b ≡ true → (a && b) ≡ true
      both_one a b e f = ap (λ x. x && b) e ∙ f

-- ---- those that are picked where what was kept of the classes was taken out

filtered_by : (c : ℕ) (ns ms : List ℕ) (b : Bool) → ns ≡ ms → (if b then c ∷ ns else ns) ≡ (if b then c ∷ ms else ms)
filtered_by c ns ms b e = ap (λ l. if b then c ∷ l else l) e

picked : (old now : List Kept) (cs : List ClassId) → others_among cs (map (kept_at old) (numbers cs)) now ≡ filter (λ n. is_other (listing_at old n) (listing_at now n)) (numbers cs)
picked old now [] = refl
picked old now (c ∷ cs) =
    filtered_by c.0 (others_among cs (map (kept_at old) (numbers cs)) now) (filter (λ n. is_other (listing_at old n) (listing_at now n)) (numbers cs)) (is_other (listing_at old c.0) (listing_at now c.0)) (picked old now cs)

-- they are all whose lists changed, where those of all others stay
pub picked_all : (old now : List Kept) (cs : List ClassId) (N : ℕ) → Ascends (numbers cs) → ((n : ℕ) → has (numbers cs) n ≡ true → n < N)
    → ((n : ℕ) → n < N → is_other (listing_at old n) (listing_at now n) ≡ true → has (numbers cs) n ≡ true) → others_among cs (map (kept_at old) (numbers cs)) now ≡ changed_among N (listing_at old) (listing_at now)
picked_all old now cs N a w t = picked old now cs ∙ changed_touched (listing_at old) (listing_at now) (numbers cs) N a w t
