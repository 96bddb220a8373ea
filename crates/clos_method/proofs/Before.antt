-- Of applicable methods with a specializer for each argument, which come before which.
use Rattle.std.proofs.Common.{◌≡◌, ℕ, ◌<◌, true, false, List, [], ◌∷◌, length, refl, ap, sym, ◌∙◌, true≢false}
use Rattle.std.specs.Prelude.{slice_get, Option, Some, None, unwrap_or}
use Rattle.lisp_data.specs.Print.{Specializer}
use Rattle.clos_method.specs.Applicable.{all_fit, applies_to, is_applicable, specializers_in, specializers_of}
use Rattle.clos_method.specs.Arguments.{Argument}
use Rattle.clos_method.specs.Laws.{IsMember}
use Rattle.clos_method.specs.Order.{comes_before, decided, is_before}
use Rattle.clos_method.specs.SpecializerLaws.{same_specializer-Decides}
use Rattle.clos_method.specs.declared.method.Method.{Method}
use Rattle.clos_method.proofs.Ranks.{FitsAt, before_is_lower, fit_each, lower, lower_one_way, not_lower_through, ranks, same_by_ranks, same_ranks}

fit_of : (args : List Argument) (o : Option Method) → applies_to args o ≡ true → all_fit args (specializers_in o) ≡ true
fit_of args None h = absurd (true≢false (sym h))
fit_of args (Some m) h = h

undecided : (a : Option Argument) (s : Option Specializer) → decided a s s ≡ None
undecided None s = refl
undecided (Some a) None = refl
undecided (Some a) (Some s) = rw ((same_specializer-Decides s s).1 refl) refl

-- no specializers come before themselves
pub not_before_itself : (order : List ℕ) (args : List Argument) (xs : List Specializer) → is_before order args xs xs ≡ false
not_before_itself [] args xs = refl
not_before_itself (p ∷ order) args xs = ap (λ d. unwrap_or d (is_before order args xs xs)) (undecided (slice_get args p) (slice_get xs p)) ∙ not_before_itself order args xs

module _ (methods : List Method) (order : List ℕ) (args : List Argument) where
  -- applicable, with a specializer for each argument
  pub record Counts (n : ℕ) : Type 0 where
    pub applicable : is_applicable methods args n ≡ true
    pub specialized : length (specializers_of methods n) ≡ length args

  fits_each : (n : ℕ) → Counts n → (p : ℕ) → FitsAt (slice_get args p) (slice_get (specializers_of methods n) p)
  fits_each n c p = fit_each args (specializers_of methods n) c.specialized (fit_of args (slice_get methods n) c.applicable) p

  abbrev ranks_of : ℕ → ℕ → ℕ
  ranks_of n = ranks args (specializers_of methods n)

  by_rank : (n m : ℕ) → Counts n → Counts m → comes_before methods order args n m ≡ lower order (ranks_of n) (ranks_of m)
  by_rank n m c d = before_is_lower order args (specializers_of methods n) (specializers_of methods m) (fits_each n c) (fits_each m d)

  pub one_way : (n m : ℕ) → Counts n → Counts m → comes_before methods order args n m ≡ true → comes_before methods order args m n ≡ false
  one_way n m c d h = by_rank m n d c ∙ lower_one_way order (ranks_of n) (ranks_of m) (sym (by_rank n m c d) ∙ h)

  pub not_before_through : (k n m : ℕ) → Counts k → Counts n → Counts m → comes_before methods order args k n ≡ false → comes_before methods order args n m ≡ false
      → comes_before methods order args k m ≡ false
  not_before_through k n m b c d x y =
      by_rank k m b d ∙ not_lower_through order (ranks_of k) (ranks_of n) (ranks_of m) (sym (by_rank k n b c) ∙ x) (sym (by_rank n m c d) ∙ y)

  -- of two with different specializers one comes before the other
  pub same_specializers : (n m : ℕ) → ((p : ℕ) → p < length args → IsMember order p) → Counts n → Counts m → comes_before methods order args n m ≡ false
      → comes_before methods order args m n ≡ false → specializers_of methods n ≡ specializers_of methods m
  same_specializers n m each c d x y =
      same_by_ranks args (specializers_of methods n) (specializers_of methods m) c.specialized d.specialized (fits_each n c) (fits_each m d)
      (λ p h. same_ranks order (ranks_of n) (ranks_of m) (sym (by_rank n m c d) ∙ x) (sym (by_rank m n d c) ∙ y) p (each p h))
