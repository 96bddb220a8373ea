-- What is kept where the classes that are touched are taken out, and where they are put back.
use Rattle.std.proofs.Common.{◌≡◌, ◌⊎◌, inl, inr, ℕ, zero, suc, ◌==◌, ◌<◌, ◌≤◌, Bool, true, false, true≢false, List, [], ◌∷◌, length, map, arith, refl, ap, sym, subst, ◌∙◌}
use Rattle.std.specs.Prelude.{◌||◌, ◌&&◌, slice_set, if◌then◌else◌}
use Rattle.std.proofs.lemmas.Bool.{eq-eqb, eqb-true}
use Rattle.lisp_data.specs.declared.ids.ClassId.{ClassId}
use Rattle.clos_precedence.specs.Precedence.{has}
use Rattle.clos_precedence.specs.PrecedenceView.{numbers}
use Rattle.clos_precedence.proofs.Members.{first_or_later, has_first, has_later}
use Rattle.clos_precedence.proofs.Truth.{either}
use Rattle.clos_hierarchy.specs.Classes.{Classes, Listing, broken, is_broken, is_lacking, lacking, list_in, listed}
use Rattle.clos_hierarchy.specs.declared.kept.Kept.{Kept}
use Rattle.clos_hierarchy.specs.declared.kept.Kept.TheVariants.{Lacking}
use Rattle.clos_hierarchy.specs.inner.Below.{below_at}
use Rattle.clos_hierarchy.specs.inner.Exchange.{nothing_of, put_all, replaced}
use Rattle.clos_hierarchy.specs.inner.Kept.{Knows, Restarts, without}
use Rattle.clos_hierarchy.specs.inner.KeptView.{kept_above, kept_at, listing_at, listing_of}
use Rattle.clos_hierarchy.specs.inner.Touched.{AreNoted, AreWithin, Ascends, OthersStay, NoneBroken, NoneElse, have_it, is_touched}
use Rattle.clos_hierarchy.proofs.Filling.{it_lacks, same_length, set_other, set_same}

-- ---- what is put in places

pub put_length : (ps : List ℕ) (new ks : List Kept) → length (put_all ps new ks) ≡ length ks
put_length [] new ks = refl
put_length (p ∷ ps) [] ks = refl
put_length (p ∷ ps) (k ∷ new) ks = put_length ps new (slice_set ks p k) ∙ same_length ks p k

not_first : (p n : ℕ) (ps : List ℕ) → has (p ∷ ps) n ≡ false → ((p == n) ≡ false) × (has ps n ≡ false)
not_first p n ps h = by (p == n) (has ps n) h
  where
    by : (a b : Bool) → (a || b) ≡ false → (a ≡ false) × (b ≡ false)
    by true b h = absurd (true≢false h)
    by false b h = (refl, h)

pub put_others : (ps : List ℕ) (new ks : List Kept) (n : ℕ) → has ps n ≡ false → kept_at (put_all ps new ks) n ≡ kept_at ks n
put_others [] new ks n h = refl
put_others (p ∷ ps) [] ks n h = refl
put_others (p ∷ ps) (k ∷ new) ks n h = put_others ps new (slice_set ks p k) n (not_first p n ps h).1 ∙ set_other ks p n k (not_first p n ps h).0

-- where each number is below those after it, the first is none of them
first_once : (p : ℕ) (ps : List ℕ) (b : Bool) → has ps p ≡ b → Ascends (p ∷ ps) → has ps p ≡ false
first_once p ps true e a = let l : p < p = a.0 p e in absurd (omega (arith, l))
first_once p ps false e a = e

-- nothing is said of those that are taken out
nothing_by : (p : ℕ) (ps : List ℕ) (ks : List Kept) (n : ℕ) → (p ≡ n) ⊎ (has ps n ≡ true) → Ascends (p ∷ ps) → p < length ks
    → (has ps n ≡ true → kept_at (put_all ps (nothing_of ps) (slice_set ks p Lacking)) n ≡ Lacking) → kept_at (put_all ps (nothing_of ps) (slice_set ks p Lacking)) n ≡ Lacking
nothing_by p ps ks n (inl e) a h r =
    subst (λ i. kept_at (put_all ps (nothing_of ps) (slice_set ks p Lacking)) i ≡ Lacking) e
    (put_others ps (nothing_of ps) (slice_set ks p Lacking) p (first_once p ps (has ps p) refl a) ∙ set_same ks p Lacking h)
nothing_by p ps ks n (inr e) a h r = r e

pub nothing_there : (ps : List ℕ) (ks : List Kept) (n : ℕ) → Ascends ps → AreWithin ps ks → has ps n ≡ true → kept_at (put_all ps (nothing_of ps) ks) n ≡ Lacking
nothing_there [] ks n a w h = absurd (true≢false (sym h))
nothing_there (p ∷ ps) ks n a w h =
    nothing_by p ps ks n (first_or_later p n ps h) a (w p (has_first p ps))
    (λ e. nothing_there ps (slice_set ks p Lacking) n a.1 (λ m i. subst (λ l. m < l) (sym (same_length ks p Lacking)) (w m (has_later p m ps i))) e)

pub second : (a b : Bool) → (a && b) ≡ true → b ≡ true
second true b h = h
second false b h = absurd (true≢false (sym h))

both : (a b : Bool) → a ≡ true → b ≡ true → (a && b) ≡ true
both a b e f = ap (λ x. x && b) e ∙ f

goes_if : (a : Listing) (c : ℕ) → has (list_in a) c ≡ true → without c a ≡ lacking
goes_if lacking c h = refl
goes_if broken c h = refl
goes_if (listed l) c h = cc

pub past : (xs : List Kept) (n : ℕ) → length xs ≤ n → kept_at xs n ≡ Lacking
past [] n h = refl
past (x ∷ xs) zero h = absurd (omega (arith, h))
past (x ∷ xs) (suc n) h = past xs n (omega (arith, h))

-- ---- by what is known: of the classes old is kept, and ks where the class c may have come as the last

module _ (old : List Kept) (woken : List ℕ) (rows : List (List ℕ)) (c : ℕ) (ps : List ℕ) (o : AreNoted rows old) (t : (n : ℕ) → has ps n ≡ is_touched old woken rows c n) where
  pub own_in : has ps c ≡ true
  own_in = t c ∙ ap (λ b. b || (has woken c || have_it old c (below_at rows c) c)) (eq-eqb c c refl)

  none_of : (n : ℕ) → has ps n ≡ false → have_it old c (below_at rows c) n ≡ false
  none_of n h = by (c == n) (has woken n) (have_it old c (below_at rows c) n) (sym (t n) ∙ h)
    where
      by : (a b d : Bool) → (a || (b || d)) ≡ false → d ≡ false
      by true b d h = absurd (true≢false h)
      by false true d h = absurd (true≢false h)
      by false false d h = h

  not_noted : (n : ℕ) (b : Bool) → has (list_in (listing_at old n)) c ≡ b → have_it old c (below_at rows c) n ≡ false → b ≡ false
  not_noted n true e h = absurd (true≢false (sym (both (has (below_at rows c) n) (has (list_in (listing_at old n)) c) (o n c e) e) ∙ h))
  not_noted n false e h = refl

  -- no other class has it in its list
  pub free : (n : ℕ) → has ps n ≡ false → has (list_in (listing_at old n)) c ≡ false
  free n h = by (has (list_in (listing_at old n)) c) refl
    where
      by : (b : Bool) → has (list_in (listing_at old n)) c ≡ b → b ≡ false
      by b e = not_noted n b e (none_of n h)

module _ (old ks : List Kept) (woken : List ℕ) (rows : List (List ℕ)) (c : ℕ) (ps : List ℕ) (same : (n : ℕ) → kept_at ks n ≡ kept_at old n)
    (u : NoneBroken old) (w : (n : ℕ) → has woken n ≡ true → is_lacking (listing_at old n) ≡ true) (o : AreNoted rows old) (t : (n : ℕ) → has ps n ≡ is_touched old woken rows c n) where
  own : (cs : Classes) (k : Knows cs old) (a : Listing) → listing_at old c ≡ a → without c a ≡ lacking
  own cs k lacking e = refl
  own cs k broken e = refl
  own cs k (listed l) e = goes_if (listed l) c (k.keeps.whole c l e).family.self

  gone_by : (cs : Classes) (k : Knows cs old) (n : ℕ) → ((c == n) ≡ true) ⊎ ((has woken n || have_it old c (below_at rows c) n) ≡ true) → without c (listing_at old n) ≡ lacking
  gone_by cs k n (inl e) = subst (λ i. without c (listing_at old i) ≡ lacking) (eqb-true c n e) (own cs k (listing_at old c) refl)
  gone_by cs k n (inr h) = by (either (has woken n) (have_it old c (below_at rows c) n) h)
    where
      by : (has woken n ≡ true) ⊎ (have_it old c (below_at rows c) n ≡ true) → without c (listing_at old n) ≡ lacking
      by (inl i) = ap (without c) (it_lacks (listing_at old n) (w n i))
      by (inr i) = goes_if (listing_at old n) c (second (has (below_at rows c) n) (has (list_in (listing_at old n)) c) i)

  -- the classes that are touched are those of which the lists may go
  gone : (cs : Classes) (k : Knows cs old) (n : ℕ) → has ps n ≡ true → without c (listing_at old n) ≡ lacking
  gone cs k n h = gone_by cs k n (either (c == n) (has woken n || have_it old c (below_at rows c) n) (sym (t n) ∙ h))

  without_it : (a : Listing) (b : Bool) → has (list_in a) c ≡ b → is_broken a ≡ false → b ≡ false → a ≡ without c a
  without_it lacking b e v h = refl
  without_it broken b e v h = absurd (true≢false v)
  without_it (listed l) b e v h = sym (kept_if (has l c) (e ∙ h))
    where
      kept_if : (b : Bool) → b ≡ false → (if b then lacking else listed l) ≡ listed l
      kept_if true h = absurd (true≢false h)
      kept_if false h = refl

  -- what is kept of all others stays
  stays_out : (n : ℕ) → has ps n ≡ false → listing_at old n ≡ without c (listing_at old n)
  stays_out n h = without_it (listing_at old n) (has (list_in (listing_at old n)) c) refl (u n) (free old woken rows c ps o t n h)

  pub none_else : NoneElse ps ks
  none_else n h = ap (λ k. is_broken (listing_of k)) (same n) ∙ u n

  -- ---- what is kept once they are taken out

  module _ (a : Ascends ps) (v : AreWithin ps ks) where
    abbrev out : List Kept
    out = put_all ps (nothing_of ps) ks

    abbrev Restart : ℕ → Type 0
    Restart n = (listing_at out n ≡ without c (listing_at old n)) × ((l : List ℕ) → listing_at out n ≡ listed l → kept_above (kept_at out n) ≡ kept_above (kept_at old n))

    restart_by : (cs : Classes) (k : Knows cs old) (n : ℕ) (b : Bool) → has ps n ≡ b → Restart n
    restart_by cs k n true e =
        let s : kept_at out n ≡ Lacking = nothing_there ps ks n a v e in (ap listing_of s ∙ sym (gone cs k n e), λ l i. absurd (lacks l (sym (ap listing_of s) ∙ i)))
      where
        lacks : (l : List ℕ) → lacking ≡ listed l → ⊥
        lacks l e = true≢false (ap is_lacking e)
    restart_by cs k n false e = let s : kept_at out n ≡ kept_at old n = put_others ps (nothing_of ps) ks n e ∙ same n in (ap listing_of s ∙ stays_out n e, λ l i. ap kept_above s)

    pub restarts : (cs : Classes) → Knows cs old → Restarts c old out
    restarts cs k n = restart_by cs k n (has ps n) refl

-- ---- what is put back

pub same_kept : (xs ys : List Kept) → length xs ≡ length ys → ((n : ℕ) → kept_at xs n ≡ kept_at ys n) → xs ≡ ys
same_kept [] [] e h = refl
same_kept [] (y ∷ ys) e h = absurd (omega (arith, e))
same_kept (x ∷ xs) [] e h = absurd (omega (arith, e))
same_kept (x ∷ xs) (y ∷ ys) e h = λ i. h 0 i ∷ same_kept xs ys (omega (arith, e)) (λ n. h (suc n)) i

neither : (a b : Bool) → a ≡ false → b ≡ false → (a || b) ≡ false
neither a b e i = ap (λ x. x || b) e ∙ i

back_by : (ks now : List Kept) (p : ℕ) (ps : List ℕ) (n : ℕ) (b : Bool) → (p == n) ≡ b → p < length now → ((m : ℕ) → has (p ∷ ps) m ≡ false → kept_at now m ≡ kept_at ks m) → has ps n ≡ false
    → kept_at (slice_set now p (kept_at ks p)) n ≡ kept_at ks n
back_by ks now p ps n true e l f i = subst (λ m. kept_at (slice_set now p (kept_at ks p)) m ≡ kept_at ks m) (eqb-true p n e) (set_same now p (kept_at ks p) l)
back_by ks now p ps n false e l f i = set_other now p n (kept_at ks p) e ∙ f n (neither (p == n) (has ps n) e i)

pub back_at : (ps : List ℕ) (ks now : List Kept) → AreWithin ps now → ((n : ℕ) → has ps n ≡ false → kept_at now n ≡ kept_at ks n) → (n : ℕ) → kept_at (put_all ps (map (kept_at ks) ps) now) n ≡ kept_at ks n
back_at [] ks now w h n = h n refl
back_at (p ∷ ps) ks now w h n =
    back_at ps ks (slice_set now p (kept_at ks p)) (λ m i. subst (λ l. m < l) (sym (same_length now p (kept_at ks p))) (w m (has_later p m ps i)))
    (λ m i. back_by ks now p ps m (p == m) refl (w p (has_first p ps)) h i) n

pub put_back : (ps : List ℕ) (ks now : List Kept) → length now ≡ length ks → AreWithin ps ks → ((n : ℕ) → has ps n ≡ false → kept_at now n ≡ kept_at ks n) → put_all ps (map (kept_at ks) ps) now ≡ ks
put_back ps ks now l w h =
    same_kept (put_all ps (map (kept_at ks) ps) now) ks (put_length ps (map (kept_at ks) ps) now ∙ l) (back_at ps ks now (λ n i. subst (λ m. n < m) (sym l) (w n i)) h)

pub map_same : (ps : List ℕ) (f g : ℕ → Kept) → ((n : ℕ) → has ps n ≡ true → f n ≡ g n) → map f ps ≡ map g ps
map_same [] f g h = refl
map_same (p ∷ ps) f g h = λ i. h p (has_first p ps) i ∷ map_same ps f g (λ n e. h n (has_later p n ps e)) i

apart : (p n : ℕ) (ps : List ℕ) (b : Bool) → (p == n) ≡ b → Ascends (p ∷ ps) → has ps n ≡ true → (p == n) ≡ false
apart p n ps true e a h = let l : p < n = a.0 n h in let q : p ≡ n = eqb-true p n e in absurd (omega (arith, l, q))
apart p n ps false e a h = e

-- what stood in each place
pub replaced_is : (cs : List ClassId) (new ks : List Kept) → Ascends (numbers cs) → length new ≡ length cs → replaced (numbers cs) new ks ≡ map (kept_at ks) (numbers cs)
replaced_is [] new ks a l = refl
replaced_is (c ∷ cs) [] ks a l = absurd (omega (arith, l))
replaced_is (c ∷ cs) (k ∷ new) ks a l =
    ap (λ xs. kept_at ks c.0 ∷ xs)
    (replaced_is cs new (slice_set ks c.0 k) a.1 (omega (arith, l))
    ∙ map_same (numbers cs) (kept_at (slice_set ks c.0 k)) (kept_at ks) (λ n h. set_other ks c.0 n k (apart c.0 n (numbers cs) (c.0 == n) refl a h)))

-- ---- as the code does it

pub as_many : (cs : List ClassId) → length (nothing_of (numbers cs)) ≡ length cs
as_many [] = refl
as_many (c ∷ cs) = ap suc (as_many cs)

pub taken_is : (cs : List ClassId) (ks : List Kept) → Ascends (numbers cs) → replaced (numbers cs) (nothing_of (numbers cs)) ks ≡ map (kept_at ks) (numbers cs)
taken_is cs ks a = replaced_is cs (nothing_of (numbers cs)) ks a (as_many cs)

pub within_out : (ps : List ℕ) (ks : List Kept) → AreWithin ps ks → AreWithin ps (put_all ps (nothing_of ps) ks)
within_out ps ks w n h = subst (λ l. n < l) (sym (put_length ps (nothing_of ps) ks)) (w n h)

-- what was found after they were taken out has the others as they were
pub out_others : (ps : List ℕ) (ks new : List Kept) → OthersStay ps (put_all ps (nothing_of ps) ks) new → OthersStay ps ks new
out_others ps ks new o = (o.0 ∙ put_length ps (nothing_of ps) ks, λ n h. o.1 n h ∙ put_others ps (nothing_of ps) ks n h)

pub within_new : (ps : List ℕ) (ks new : List Kept) → AreWithin ps ks → OthersStay ps ks new → AreWithin ps new
within_new ps ks new w o n h = subst (λ l. n < l) (sym o.0) (w n h)

pub as_many_taken : (cs : List ClassId) (f : ℕ → Kept) → length (map f (numbers cs)) ≡ length cs
as_many_taken [] f = refl
as_many_taken (c ∷ cs) f = ap suc (as_many_taken cs f)
