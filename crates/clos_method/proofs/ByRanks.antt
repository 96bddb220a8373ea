-- Methods are put in order by their ranks.
use Rattle.std.proofs.Common.{◌≡◌, ℕ, zero, suc, ◌-◌, ◌<◌, ◌≤◌, Bool, true, false, List, [], ◌∷◌, drop, length, Option, Some, None, refl, ap, subst, sym, ◌∙◌, true≢false, arith}
use Rattle.std.proofs.Math.ListN.{get_or}
use Rattle.std.proofs.Math.Seq.{drop-cons}
use Rattle.std.specs.Prelude.{slice_get, unwrap_or, if◌then◌else◌}
use Rattle.std.specs.Cmp.{first_so, second_so}
use Rattle.lisp_data.specs.Print.{Specializer}
use Rattle.lisp_data.specs.declared.ids.MethodId.{MethodId}
use Rattle.clos_method.specs.Applicable.{all_fit, applies_to, fits, is_applicable, specializers_in, specializers_of}
use Rattle.clos_method.specs.Arguments.{Argument}
use Rattle.clos_method.specs.MethodIds.{method_numbers}
use Rattle.clos_method.specs.Order.{comes_before, decided, is_before, ordered, placed}
use Rattle.clos_method.specs.declared.method.Method.{Method}
use Rattle.clos_method.specs.declared.order.Ranked.{Ranked}
use Rattle.clos_method.specs.inner.Ranking.{AreRanked, IsRanked, RanksOf, placed_in, ranked_numbers}
use Rattle.clos_method.specs.inner.Ranks.{by_both, is_lower, rank_of, ranks_of}
use Rattle.clos_method.proofs.Ranks.{decided_by, rank_told}

-- a specializer fits the argument, where there are both
abbrev FitsIn : Option Argument → Option Specializer → Type 0
FitsIn (Some a) (Some s) = fits a s ≡ true
FitsIn (Some a) None = Unit {0}
FitsIn None s = Unit {0}

fits_none : (a : Option Argument) → FitsIn a None
fits_none None = tt
fits_none (Some a) = tt

fit_at : (args : List Argument) (xs : List Specializer) (p : ℕ) → all_fit args xs ≡ true → FitsIn (slice_get args p) (slice_get xs p)
fit_at args [] p h = fits_none (slice_get args p)
fit_at [] (x ∷ xs) p h = absurd (true≢false (sym h))
fit_at (a ∷ args) (x ∷ xs) zero h = first_so (fits a x) (all_fit args xs) h
fit_at (a ∷ args) (x ∷ xs) (suc p) h = fit_at args xs p (second_so (fits a x) (all_fit args xs) h)

decided_by_both : (a : Option Argument) (s t : Option Specializer) → FitsIn a s → FitsIn a t → decided a s t ≡ by_both (rank_of a s) (rank_of a t)
decided_by_both None s t h k = refl
decided_by_both (Some a) None t h k = refl
decided_by_both (Some a) (Some s) None h k = refl
decided_by_both (Some a) (Some s) (Some t) h k =
    decided_by (Some a) (Some s) (Some t) h k ∙ (λ i. by_both (Some (rank_told a s i)) (Some (rank_told a t i)))

-- what decides are the ranks
before_by_ranks : (order : List ℕ) (args : List Argument) (xs ys : List Specializer) → all_fit args xs ≡ true → all_fit args ys ≡ true
    → is_before order args xs ys ≡ is_lower (ranks_of order args xs) (ranks_of order args ys)
before_by_ranks [] args xs ys f g = refl
before_by_ranks (p ∷ order) args xs ys f g = λ i. unwrap_or
    (decided_by_both (slice_get args p) (slice_get xs p) (slice_get ys p) (fit_at args xs p f) (fit_at args ys p g) i)
    (before_by_ranks order args xs ys f g i)

fits_in : (args : List Argument) (m : Option Method) → applies_to args m ≡ true → all_fit args (specializers_in m) ≡ true
fits_in args None h = absurd (true≢false (sym h))
fits_in args (Some m) h = h

module _ (methods : List Method) (order : List ℕ) (args : List Argument) where
  lower_is : (n m : Ranked) → IsRanked methods order args n → IsRanked methods order args m
      → is_lower n.ranks.items m.ranks.items ≡ comes_before methods order args n.id.0 m.id.0
  lower_is n m h k =
      (λ i. is_lower (h.1 i) (k.1 i))
      ∙ sym (before_by_ranks order args (specializers_of methods n.id.0) (specializers_of methods m.id.0) h.0 k.0)

  numbers_step : (b : Bool) (m n : Ranked) (ns : List Ranked)
      → ranked_numbers (placed_in m ns) ≡ placed methods order args m.id.0 (ranked_numbers ns)
      → ranked_numbers (if b then n ∷ placed_in m ns else m ∷ n ∷ ns)
      ≡ (if b then n.id.0 ∷ placed methods order args m.id.0 (ranked_numbers ns) else m.id.0 ∷ n.id.0 ∷ ranked_numbers ns)
  numbers_step true m n ns e = ap (λ xs. n.id.0 ∷ xs) e
  numbers_step false m n ns e = refl

  numbers_placed : (m : Ranked) (ns : List Ranked) → IsRanked methods order args m → AreRanked methods order args ns
      → ranked_numbers (placed_in m ns) ≡ placed methods order args m.id.0 (ranked_numbers ns)
  numbers_placed m [] h k = refl
  numbers_placed m (n ∷ ns) h k =
      numbers_step (is_lower n.ranks.items m.ranks.items) m n ns (numbers_placed m ns h k.1)
      ∙ ap (λ b. if b then n.id.0 ∷ placed methods order args m.id.0 (ranked_numbers ns) else m.id.0 ∷ n.id.0 ∷ ranked_numbers ns)
      (lower_is n m k.0 h)

  ranked_step : (b : Bool) (m n : Ranked) (ns : List Ranked) → IsRanked methods order args m → AreRanked methods order args (n ∷ ns)
      → AreRanked methods order args (placed_in m ns) → AreRanked methods order args (if b then n ∷ placed_in m ns else m ∷ n ∷ ns)
  ranked_step true m n ns h k rest = (k.0, rest)
  ranked_step false m n ns h k rest = (h, k)

  ranked_placed : (m : Ranked) (ns : List Ranked) → IsRanked methods order args m → AreRanked methods order args ns
      → AreRanked methods order args (placed_in m ns)
  ranked_placed m [] h k = (h, tt)
  ranked_placed m (n ∷ ns) h k = ranked_step (is_lower n.ranks.items m.ranks.items) m n ns h k (ranked_placed m ns h k.1)

  -- one more candidate
  next_applies : (m : ℕ) (ms : List ℕ) (one : Ranked) (rs ss : List Ranked) → is_applicable methods args m ≡ true → one.id.0 ≡ m
      → one.ranks.items ≡ ranks_of order args (specializers_of methods m) → RanksOf methods order args ms rs → ss ≡ placed_in one rs
      → RanksOf methods order args (m ∷ ms) ss
  next_applies m ms one rs ss a e r k p =
      let h : IsRanked methods order args one = (
        ap (λ n. all_fit args (specializers_of methods n)) e ∙ fits_in args (slice_get methods m) a,
        r ∙ ap (λ n. ranks_of order args (specializers_of methods n)) (sym e),
      ) in (
        ap ranked_numbers p
            ∙ numbers_placed one rs h k.1
            ∙ (λ i. placed methods order args (e i) (k.0 i))
            ∙ sym (ap (λ b. if b then placed methods order args m (ordered methods order args ms) else ordered methods order args ms) a),
        subst (AreRanked methods order args) (sym p) (ranked_placed one rs h k.1),
      )

  -- .. which is the one before those that were candidates so far
  pub one_earlier : (ids : List MethodId) (k : ℕ) (d : MethodId) (one : Ranked) (rs ss : List Ranked) → 0 < k → k ≤ length ids
      → is_applicable methods args (get_or ids (k - 1) d).0 ≡ true → one.id ≡ get_or ids (k - 1) d
      → one.ranks.items ≡ ranks_of order args (specializers_of methods (get_or ids (k - 1) d).0)
      → RanksOf methods order args (method_numbers (drop k ids)) rs → ss ≡ placed_in one rs
      → RanksOf methods order args (method_numbers (drop (k - 1) ids)) ss
  one_earlier ids k d one rs ss some within a e r h p =
      let next : suc (k - 1) ≡ k = omega (arith, some) in
      let all : drop (k - 1) ids ≡ get_or ids (k - 1) d ∷ drop k ids =
      drop-cons ids (k - 1) d (omega (arith, some, within)) ∙ ap (λ n. get_or ids (k - 1) d ∷ drop n ids) next in
      subst (λ l. RanksOf methods order args (method_numbers l) ss) (sym all)
      (next_applies (get_or ids (k - 1) d).0 (method_numbers (drop k ids)) one rs ss a (ap (λ m. m.0) e) r h p)
