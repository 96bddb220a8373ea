-- What is kept of some classes, put in the place of what was kept.
use Rattle.std.proofs.Common.{◌≡◌, ℕ, zero, suc, ◌+◌, ◌<◌, ◌≤◌, ◌++◌, true, List, [], ◌∷◌, drop, take, length, arith, refl, ap, sym, subst, ◌∙◌}
use Rattle.std.specs.Prelude.{slice_index_or, slice_set}
use Rattle.lisp_data.specs.declared.ids.ClassId.{ClassId}
use Rattle.clos_precedence.specs.Precedence.{has}
use Rattle.clos_precedence.specs.PrecedenceView.{numbers}
use Rattle.clos_precedence.proofs.Members.{has_first, has_later}
use Rattle.clos_hierarchy.specs.declared.kept.Kept.{Kept}
use Rattle.clos_hierarchy.specs.inner.KeptView.{kept_at}
use Rattle.clos_hierarchy.specs.inner.Exchange.{put_all, replaced}

-- so many of these places are done
pub record Exchanges (ps : List ℕ) (new old : List Kept) (others kept : List Kept) (index : ℕ) : Type 0 where
  pub put : put_all (drop index ps) (drop index others) kept ≡ put_all ps new old
  pub back : take index others ++ replaced (drop index ps) (drop index others) kept ≡ replaced ps new old
  pub each : length others ≡ length ps
  pub same : length kept ≡ length old

pub exchanges_first : (ps : List ℕ) (new old : List Kept) → length new ≡ length ps → Exchanges ps new old new old 0
exchanges_first ps new old e = record { put = refl; back = refl; each = e; same = refl }

drop_at : {A : Type 0} (xs : List A) (i : ℕ) (x : A) → i < length xs → x ≡ slice_index_or xs i x → drop i xs ≡ x ∷ drop (suc i) xs
drop_at [] i x h e = absurd (omega (arith, h))
drop_at (y ∷ xs) zero x h e = ap (λ z. z ∷ xs) (sym e)
drop_at (y ∷ xs) (suc i) x h e = drop_at xs i x (omega (arith, h)) e

drop_set : {A : Type 0} (xs : List A) (i : ℕ) (x : A) → drop (suc i) (slice_set xs i x) ≡ drop (suc i) xs
drop_set [] i x = refl
drop_set (y ∷ xs) zero x = refl
drop_set (y ∷ xs) (suc i) x = drop_set xs i x

take_set : {A : Type 0} (xs : List A) (i : ℕ) (x : A) → i < length xs → take (suc i) (slice_set xs i x) ≡ take i xs ++ x ∷ []
take_set [] i x h = absurd (omega (arith, h))
take_set (y ∷ xs) zero x h = refl
take_set (y ∷ xs) (suc i) x h = ap (λ l. y ∷ l) (take_set xs i x (omega (arith, h)))

length_set : {A : Type 0} (xs : List A) (i : ℕ) (x : A) → length (slice_set xs i x) ≡ length xs
length_set [] i x = refl
length_set (y ∷ xs) zero x = refl
length_set (y ∷ xs) (suc i) x = ap suc (length_set xs i x)

set_twice : {A : Type 0} (xs : List A) (i : ℕ) (x y : A) → slice_set (slice_set xs i x) i y ≡ slice_set xs i y
set_twice [] i x y = refl
set_twice (z ∷ xs) zero x y = refl
set_twice (z ∷ xs) (suc i) x y = ap (λ l. z ∷ l) (set_twice xs i x y)

append_assoc : {A : Type 0} (xs ys zs : List A) → (xs ++ ys) ++ zs ≡ xs ++ (ys ++ zs)
append_assoc [] ys zs = refl
append_assoc (x ∷ xs) ys zs = ap (λ l. x ∷ l) (append_assoc xs ys zs)

pub exchanges_next : (ps : List ℕ) (new old others kept : List Kept) (index p : ℕ) (k : Kept) → Exchanges ps new old others kept index → index < length ps → p ≡ slice_index_or ps index p
    → k ≡ slice_index_or others index k → Exchanges ps new old (slice_set others index (kept_at kept p)) (slice_set kept p k) (suc index)
exchanges_next ps new old others kept index p k x h e f =
    let l : length others ≡ length ps = x.each in
    let a : drop index ps ≡ p ∷ drop (suc index) ps = drop_at ps index p h e in
    let b : drop index others ≡ k ∷ drop (suc index) others = drop_at others index k (omega (arith, h, l)) f in
    let c : drop (suc index) (slice_set others index (kept_at kept p)) ≡ drop (suc index) others = drop_set others index (kept_at kept p) in
    let d : take (suc index) (slice_set others index (kept_at kept p)) ≡ take index others ++ kept_at kept p ∷ [] = take_set others index (kept_at kept p) (omega (arith, h, l)) in record {
      put = ap (λ ns. put_all (drop (suc index) ps) ns (slice_set kept p k)) c ∙ sym (ap (λ qs. put_all qs (k ∷ drop (suc index) others) kept) a) ∙ sym (ap (λ ns. put_all (drop index ps) ns kept) b) ∙ x.put;
      back =
          ap (λ ns. take (suc index) (slice_set others index (kept_at kept p)) ++ replaced (drop (suc index) ps) ns (slice_set kept p k)) c
          ∙ ap (λ ts. ts ++ replaced (drop (suc index) ps) (drop (suc index) others) (slice_set kept p k)) d
          ∙ append_assoc (take index others) (kept_at kept p ∷ []) (replaced (drop (suc index) ps) (drop (suc index) others) (slice_set kept p k))
          ∙ sym (ap (λ qs. take index others ++ replaced qs (k ∷ drop (suc index) others) kept) a) ∙ sym (ap (λ ns. take index others ++ replaced (drop index ps) ns kept) b) ∙ x.back;
      each = length_set others index (kept_at kept p) ∙ l;
      same = length_set kept p k ∙ x.same;
    }

drop_all : {A : Type 0} (xs : List A) (i : ℕ) → length xs ≤ i → drop i xs ≡ []
drop_all [] zero h = refl
drop_all [] (suc i) h = refl
drop_all (x ∷ xs) zero h = absurd (omega (arith, h))
drop_all (x ∷ xs) (suc i) h = drop_all xs i (omega (arith, h))

take_all : {A : Type 0} (xs : List A) (i : ℕ) → length xs ≤ i → take i xs ≡ xs
take_all [] zero h = refl
take_all [] (suc i) h = refl
take_all (x ∷ xs) zero h = absurd (omega (arith, h))
take_all (x ∷ xs) (suc i) h = ap (λ l. x ∷ l) (take_all xs i (omega (arith, h)))

end_none : {A : Type 0} (xs : List A) → xs ++ [] ≡ xs
end_none [] = refl
end_none (x ∷ xs) = ap (λ l. x ∷ l) (end_none xs)

pub exchanged_kept : (ps : List ℕ) (new old others kept : List Kept) (index : ℕ) → Exchanges ps new old others kept index → length ps ≤ index → kept ≡ put_all ps new old
exchanged_kept ps new old others kept index x h = sym (ap (λ qs. put_all qs (drop index others) kept) (drop_all ps index h)) ∙ x.put

pub exchanged_others : (ps : List ℕ) (new old others kept : List Kept) (index : ℕ) → Exchanges ps new old others kept index → length ps ≤ index → others ≡ replaced ps new old
exchanged_others ps new old others kept index x h =
    let l : length others ≡ length ps = x.each in
    sym (end_none others) ∙ sym (ap (λ os. os ++ []) (take_all others index (omega (arith, h, l))))
    ∙ sym (ap (λ qs. take index others ++ replaced qs (drop index others) kept) (drop_all ps index h)) ∙ x.back

-- ---- the class at a place

number_at : (cs : List ClassId) (i : ℕ) (c : ClassId) → i < length cs → (slice_index_or cs i c).0 ≡ slice_index_or (numbers cs) i (slice_index_or cs i c).0
number_at [] i c h = absurd (omega (arith, h))
number_at (x ∷ cs) zero c h = refl
number_at (x ∷ cs) (suc i) c h = number_at cs i c (omega (arith, h))

has_at : (cs : List ClassId) (i : ℕ) (c : ClassId) → i < length cs → has (numbers cs) (slice_index_or cs i c).0 ≡ true
has_at [] i c h = absurd (omega (arith, h))
has_at (x ∷ cs) zero c h = has_first x.0 (numbers cs)
has_at (x ∷ cs) (suc i) c h = has_later x.0 (slice_index_or cs i c).0 (numbers cs) (has_at cs i c (omega (arith, h)))

pub place_within : (cs : List ClassId) (i : ℕ) (c : ClassId) (n m : ℕ) → i < length cs → ((k : ℕ) → has (numbers cs) k ≡ true → k < n) → m ≡ n → (slice_index_or cs i c).0 < m
place_within cs i c n m h f e = let p : (slice_index_or cs i c).0 < n = f (slice_index_or cs i c).0 (has_at cs i c h) in omega (arith, p, e)

length_numbers : (cs : List ClassId) → length (numbers cs) ≡ length cs
length_numbers [] = refl
length_numbers (x ∷ cs) = ap suc (length_numbers cs)

-- what stands at a place
kept_there : (ks : List Kept) (p : ℕ) (x : Kept) → p < length ks → x ≡ slice_index_or ks p x → x ≡ kept_at ks p
kept_there [] p x h e = absurd (omega (arith, h))
kept_there (k ∷ ks) zero x h e = e
kept_there (k ∷ ks) (suc p) x h e = kept_there ks p x (omega (arith, h)) e

-- one more place, of a class
pub exchanges_on : (cs : List ClassId) (new old others kept : List Kept) (index : ℕ) (c : ClassId) (a k r x d : Kept) → Exchanges (numbers cs) new old others kept index → index < length cs
    → (slice_index_or cs index c).0 < length kept → k ≡ slice_index_or others index k → x ≡ slice_index_or kept (slice_index_or cs index c).0 x → r ≡ x → d ≡ k
    → Exchanges (numbers cs) new old (slice_set (slice_set others index a) index r) (slice_set kept (slice_index_or cs index c).0 d) (index + 1)
exchanges_on cs new old others kept index c a k r x d m h g f e q b =
    let p : ℕ = (slice_index_or cs index c).0 in
    let s : r ≡ kept_at kept p = q ∙ kept_there kept p x g e in
    let n : suc index ≡ index + 1 = omega arith in
    let t : slice_set (slice_set others index a) index r ≡ slice_set others index (kept_at kept p) = set_twice others index a r ∙ ap (slice_set others index) s in
    subst (λ i. Exchanges (numbers cs) new old (slice_set (slice_set others index a) index r) (slice_set kept p d) i) n
    (subst (λ os. Exchanges (numbers cs) new old os (slice_set kept p d) (suc index)) (sym t)
    (subst (λ v. Exchanges (numbers cs) new old (slice_set others index (kept_at kept p)) (slice_set kept p v) (suc index)) (sym b)
    (exchanges_next (numbers cs) new old others kept index p k m (subst (λ l. index < l) (sym (length_numbers cs)) h) (number_at cs index c h) f)))
