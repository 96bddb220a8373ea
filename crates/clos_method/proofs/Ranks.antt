-- Specializers that fit their arguments, by their ranks: an eql specializer first, then the classes of the list in order.
use Rattle.std.proofs.Common.{◌≡◌, ℕ, zero, suc, ◌==◌, ◌<◌, ◌≤◌, ◌||◌, ◌⊎◌, inl, inr, Bool, true, false, List, [], ◌∷◌, length, refl, ap, sym, ◌∙◌, true≢false, eqb-true, eq-eqb, arith}
use Rattle.std.specs.Prelude.{nat_lt, slice_get, Option, Some, None, unwrap_or, if◌then◌else◌}
use Rattle.std.specs.Cmp.{first_so, second_so}
use Rattle.std.proofs.lemmas.Bool.{cases_lt, cases_order, le-ltb, lt-ltb, ne_eqb}
use Rattle.lisp_data.specs.Keys.{same_value}
use Rattle.lisp_data.specs.Print.{Specializer, on_class, on_eql}
use Rattle.lisp_data.specs.Same.{same-Decides}
use Rattle.lisp_data.specs.Value.{Val}
use Rattle.lisp_data.specs.inner.ValueCode.{value_code}
use Rattle.clos_precedence.specs.Precedence.{has}
use Rattle.clos_method.specs.Applicable.{all_fit, fits}
use Rattle.clos_method.specs.Arguments.{Argument}
use Rattle.clos_method.specs.Laws.{IsMember}
use Rattle.clos_method.specs.Order.{decided, is_before, is_more_specific, stands_before}
use Rattle.clos_method.specs.Specializer.{same_specializer}
use Rattle.clos_method.specs.inner.Ranks.{place_in, rank_in}
use Rattle.clos_method.specs.SpecializerLaws.{same_specializer-Decides}

-- ---- ranks of numbers

-- what two ranks decide, if they differ
abbrev pub by_ranks : ℕ → ℕ → Option Bool
by_ranks m n = if m == n then None else Some (nat_lt m n)

-- whether at the first place where the ranks differ the first are smaller
abbrev pub lower : List ℕ → (ℕ → ℕ) → (ℕ → ℕ) → Bool
lower [] f g = false
lower (p ∷ ps) f g = unwrap_or (by_ranks (f p) (g p)) (lower ps f g)

pub data Head (a b : ℕ) (r t : Bool) : Type 0 where
  less : a < b → t ≡ true → Head a b r t
  alike : a ≡ b → t ≡ r → Head a b r t
  more : b < a → t ≡ false → Head a b r t

none_by_ranks : (a b : ℕ) → a ≡ b → by_ranks a b ≡ None
none_by_ranks a b e = rw (eq-eqb a b e) refl

true_by_ranks : (a b : ℕ) → a < b → by_ranks a b ≡ Some true
true_by_ranks a b h = rw (ne_eqb a b (λ e. omega (arith, h, e)), lt-ltb a b h) refl

false_by_ranks : (a b : ℕ) → b < a → by_ranks a b ≡ Some false
false_by_ranks a b h = rw (ne_eqb a b (λ e. omega (arith, h, e)), le-ltb a b (omega (arith, h))) refl

next_ranks_by : (a b : ℕ) → (a ≡ b) ⊎ ((a < b) ⊎ (b < a)) → by_ranks a b ≡ by_ranks (suc a) (suc b)
next_ranks_by a b (inl e) = none_by_ranks a b e ∙ sym (none_by_ranks (suc a) (suc b) (ap suc e))
next_ranks_by a b (inr (inl h)) = true_by_ranks a b h ∙ sym (true_by_ranks (suc a) (suc b) (omega (arith, h)))
next_ranks_by a b (inr (inr h)) = false_by_ranks a b h ∙ sym (false_by_ranks (suc a) (suc b) (omega (arith, h)))

next_ranks : (a b : ℕ) → by_ranks a b ≡ by_ranks (suc a) (suc b)
next_ranks a b = next_ranks_by a b (cases_order a b)

smaller : (a b : ℕ) (r : Bool) → a < b → unwrap_or (by_ranks a b) r ≡ true
smaller a b r h = ap (λ d. unwrap_or d r) (true_by_ranks a b h)

equal : (a b : ℕ) (r : Bool) → a ≡ b → unwrap_or (by_ranks a b) r ≡ r
equal a b r e = ap (λ d. unwrap_or d r) (none_by_ranks a b e)

greater : (a b : ℕ) (r : Bool) → b < a → unwrap_or (by_ranks a b) r ≡ false
greater a b r h = ap (λ d. unwrap_or d r) (false_by_ranks a b h)

head_by : (a b : ℕ) (r : Bool) → (a ≡ b) ⊎ ((a < b) ⊎ (b < a)) → Head a b r (unwrap_or (by_ranks a b) r)
head_by a b r (inl e) = alike e (equal a b r e)
head_by a b r (inr (inl h)) = less h (smaller a b r h)
head_by a b r (inr (inr h)) = more h (greater a b r h)

head : (a b : ℕ) (r : Bool) → Head a b r (unwrap_or (by_ranks a b) r)
head a b r = head_by a b r (cases_order a b)

-- ---- lists of ranks

other_head : (a b : ℕ) (r q t : Bool) → Head a b r t → t ≡ true → (r ≡ true → q ≡ false) → unwrap_or (by_ranks b a) q ≡ false
other_head a b r q t (less h e) k rest = greater b a q h
other_head a b r q t (alike p e) k rest = equal b a q (sym p) ∙ rest (sym e ∙ k)
other_head a b r q t (more h e) k rest = absurd (true≢false (sym k ∙ e))

pub lower_one_way : (ps : List ℕ) (f g : ℕ → ℕ) → lower ps f g ≡ true → lower ps g f ≡ false
lower_one_way [] f g h = refl
lower_one_way (p ∷ ps) f g h =
    other_head (f p) (g p) (lower ps f g) (lower ps g f) (lower (p ∷ ps) f g) (head (f p) (g p) (lower ps f g)) h (lower_one_way ps f g)

-- three ranks, of which the first is not below the second, nor the second below the third
through : (a b c : ℕ) (r q s t u : Bool) → Head a b r t → Head b c q u → t ≡ false → u ≡ false → (r ≡ false → q ≡ false → s ≡ false)
    → unwrap_or (by_ranks a c) s ≡ false
through a b c r q s t u (less h e) k x y rest = absurd (true≢false (sym e ∙ x))
through a b c r q s t u (alike h e) (less k d) x y rest = absurd (true≢false (sym d ∙ y))
through a b c r q s t u (alike h e) (alike k d) x y rest = equal a c s (h ∙ k) ∙ rest (sym e ∙ x) (sym d ∙ y)
through a b c r q s t u (alike h e) (more k d) x y rest = greater a c s (omega (arith, h, k))
through a b c r q s t u (more h e) (less k d) x y rest = absurd (true≢false (sym d ∙ y))
through a b c r q s t u (more h e) (alike k d) x y rest = greater a c s (omega (arith, h, k))
through a b c r q s t u (more h e) (more k d) x y rest = greater a c s (omega (arith, h, k))

pub not_lower_through : (ps : List ℕ) (f g h : ℕ → ℕ) → lower ps f g ≡ false → lower ps g h ≡ false → lower ps f h ≡ false
not_lower_through [] f g h x y = refl
not_lower_through (p ∷ ps) f g h x y =
    through (f p) (g p) (h p) (lower ps f g) (lower ps g h) (lower ps f h) (lower (p ∷ ps) f g) (lower (p ∷ ps) g h) (head (f p) (g p) (lower ps f g))
    (head (g p) (h p) (lower ps g h)) x y (not_lower_through ps f g h)

both_not_less : (a b : ℕ) (r q t u : Bool) → Head a b r t → Head b a q u → t ≡ false → u ≡ false → (a ≡ b) × (r ≡ false) × (q ≡ false)
both_not_less a b r q t u (less h e) k x y = absurd (true≢false (sym e ∙ x))
both_not_less a b r q t u (alike h e) (less k d) x y = absurd (true≢false (sym d ∙ y))
both_not_less a b r q t u (alike h e) (alike k d) x y = (h, sym e ∙ x, sym d ∙ y)
both_not_less a b r q t u (alike h e) (more k d) x y = absurd (omega (arith, h, k))
both_not_less a b r q t u (more h e) (less k d) x y = absurd (true≢false (sym d ∙ y))
both_not_less a b r q t u (more h e) (alike k d) x y = absurd (omega (arith, h, k))
both_not_less a b r q t u (more h e) (more k d) x y = absurd (omega (arith, h, k))

pub same_ranks : (ps : List ℕ) (f g : ℕ → ℕ) → lower ps f g ≡ false → lower ps g f ≡ false → (p : ℕ) → IsMember ps p → f p ≡ g p
same_ranks [] f g x y p h = absurd h
same_ranks (q ∷ ps) f g x y p (inl e) =
    ap f (sym e)
    ∙ (both_not_less (f q) (g q) (lower ps f g) (lower ps g f) (lower (q ∷ ps) f g) (lower (q ∷ ps) g f) (head (f q) (g q) (lower ps f g)) (head (g q) (f q) (lower ps g f)) x y).0
    ∙ ap g e
same_ranks (q ∷ ps) f g x y p (inr h) =
    let k = both_not_less (f q) (g q) (lower ps f g) (lower ps g f) (lower (q ∷ ps) f g) (lower (q ∷ ps) g f) (head (f q) (g q) (lower ps f g)) (head (g q) (f q) (lower ps g f)) x y in
    same_ranks ps f g k.1 k.2 p h

-- ---- ranks of specializers

place : List ℕ → ℕ → ℕ
place [] c = 0
place (x ∷ xs) c = if x == c then 0 else suc (place xs c)

-- what two classes of a list decide
by_list : List ℕ → ℕ → ℕ → Option Bool
by_list l c d = if c == d then None else Some (stands_before l c d)

one_more_class : (x : ℕ) (l : List ℕ) (c d : ℕ) (s t : Bool) → (x == c) ≡ s → (x == d) ≡ t → (s || has l c) ≡ true → (t || has l d) ≡ true
    → (has l c ≡ true → has l d ≡ true → by_list l c d ≡ by_ranks (place l c) (place l d)) → by_list (x ∷ l) c d ≡ by_ranks (place (x ∷ l) c) (place (x ∷ l) d)
unfolding place by_list
one_more_class x l c d true true e f h k rest = rw (e, f, eq-eqb c d (sym (eqb-true x c e) ∙ eqb-true x d f)) refl
one_more_class x l c d true false e f h k rest = rw (e, f, ne_eqb c d (λ p. true≢false (sym (eq-eqb x d (eqb-true x c e ∙ p)) ∙ f))) (sym (true_by_ranks 0 (suc (place l d)) (omega arith)))
one_more_class x l c d false true e f h k rest = rw (e, f, ne_eqb c d (λ p. true≢false (sym (eq-eqb x c (eqb-true x d f ∙ sym p)) ∙ e))) (sym (false_by_ranks (suc (place l c)) 0 (omega arith)))
one_more_class x l c d false false e f h k rest = rw (e, f) (rest h k ∙ next_ranks (place l c) (place l d))

by_classes : (l : List ℕ) (c d : ℕ) → has l c ≡ true → has l d ≡ true → by_list l c d ≡ by_ranks (place l c) (place l d)
by_classes [] c d h k = absurd (true≢false (sym h))
by_classes (x ∷ l) c d h k = one_more_class x l c d (x == c) (x == d) refl refl h k (by_classes l c d)

rank : List ℕ → Specializer → ℕ
rank l (on_eql v) = 0
rank l (on_class c) = suc (place l c)

-- of the specializer at a place for the argument there
pub rank_at : Option Argument → Option Specializer → ℕ
rank_at None s = 0
rank_at (Some a) None = 0
rank_at (Some a) (Some s) = rank a.list s

-- the same as the code has it
same_place : (l : List ℕ) (c : ℕ) → place l c ≡ place_in l c
unfolding place
same_place [] c = refl
same_place (x ∷ l) c = ap (λ n. if x == c then 0 else suc n) (same_place l c)

pub rank_told : (a : Argument) (s : Specializer) → rank_at (Some a) (Some s) ≡ rank_in a.list s
unfolding rank_at rank
rank_told a (on_eql v) = refl
rank_told a (on_class c) = ap suc (same_place a.list c)

-- there is a specializer where there is an argument, which it fits
abbrev pub FitsAt : Option Argument → Option Specializer → Type 0
FitsAt None None = Unit {0}
FitsAt None (Some s) = ⊥
FitsAt (Some a) None = ⊥
FitsAt (Some a) (Some s) = fits a s ≡ true

pub fit_each : (args : List Argument) (xs : List Specializer) → length xs ≡ length args → all_fit args xs ≡ true → (p : ℕ) → FitsAt (slice_get args p) (slice_get xs p)
fit_each [] [] e h p = tt
fit_each [] (x ∷ xs) e h p = absurd (true≢false (sym h))
fit_each (a ∷ args) [] e h p = absurd (omega (arith, e))
fit_each (a ∷ args) (x ∷ xs) e h zero = first_so (fits a x) (all_fit args xs) h
fit_each (a ∷ args) (x ∷ xs) e h (suc p) = fit_each args xs (omega (arith, e)) (second_so (fits a x) (all_fit args xs) h) p

-- one eql specializer alone may fit an argument
same_object : (v w u : Val) → same_value v u ≡ true → same_value w u ≡ true → same_value v w ≡ true
same_object v w u h k = (same-Decides value_code v w).1 ((same-Decides value_code v u).0 h ∙ sym ((same-Decides value_code w u).0 k))

decided_one : (a : Argument) (s t : Specializer) → fits a s ≡ true → fits a t ≡ true → decided (Some a) (Some s) (Some t) ≡ by_ranks (rank a.list s) (rank a.list t)
unfolding rank by_list
decided_one a (on_class c) (on_class d) h k = by_classes a.list c d h k ∙ next_ranks (place a.list c) (place a.list d)
decided_one a (on_class c) (on_eql w) h k = sym (false_by_ranks (suc (place a.list c)) 0 (omega arith))
decided_one a (on_eql v) (on_class d) h k = sym (true_by_ranks 0 (suc (place a.list d)) (omega arith))
decided_one a (on_eql v) (on_eql w) h k = rw (same_object v w a.value h k) refl

pub decided_by : (a : Option Argument) (s t : Option Specializer) → FitsAt a s → FitsAt a t → decided a s t ≡ by_ranks (rank_at a s) (rank_at a t)
unfolding rank_at
decided_by None None None h k = refl
decided_by None None (Some t) h k = absurd k
decided_by None (Some s) t h k = absurd h
decided_by (Some a) None t h k = absurd h
decided_by (Some a) (Some s) None h k = absurd k
decided_by (Some a) (Some s) (Some t) h k = decided_one a s t h k

pub ranks : List Argument → List Specializer → ℕ → ℕ
ranks args xs p = rank_at (slice_get args p) (slice_get xs p)

pub before_is_lower : (order : List ℕ) (args : List Argument) (xs ys : List Specializer) → ((p : ℕ) → FitsAt (slice_get args p) (slice_get xs p))
    → ((p : ℕ) → FitsAt (slice_get args p) (slice_get ys p)) → is_before order args xs ys ≡ lower order (ranks args xs) (ranks args ys)
unfolding ranks
before_is_lower [] args xs ys f g = refl
before_is_lower (p ∷ order) args xs ys f g = λ i. unwrap_or (decided_by (slice_get args p) (slice_get xs p) (slice_get ys p) (f p) (g p) i) (before_is_lower order args xs ys f g i)

-- ---- specializers of equal ranks are equal

undecided_by : (s b : Bool) → (if s then None else Some b) ≡ None → s ≡ true
undecided_by true b h = refl
undecided_by false b h = cc

none_is_not : (x : Specializer) → None ≡ Some x → ⊥
none_is_not x h = cc

undecided : (s t : Specializer) (b : Bool) → (if same_specializer s t then None else Some b) ≡ None → same_specializer s t ≡ true
undecided s t b h = undecided_by (same_specializer s t) b h

same_by_rank : (a : Option Argument) (s t : Option Specializer) → FitsAt a s → FitsAt a t → rank_at a s ≡ rank_at a t → s ≡ t
same_by_rank None None None h k e = refl
same_by_rank None None (Some t) h k e = absurd k
same_by_rank None (Some s) t h k e = absurd h
same_by_rank (Some a) None t h k e = absurd h
same_by_rank (Some a) (Some s) None h k e = absurd k
same_by_rank (Some a) (Some s) (Some t) h k e =
    ap Some ((same_specializer-Decides s t).0 (undecided s t (is_more_specific a.list s t) (decided_by (Some a) (Some s) (Some t) h k ∙ none_by_ranks (rank_at (Some a) (Some s)) (rank_at (Some a) (Some t)) e)))

same_each : (xs ys : List Specializer) → ((p : ℕ) → slice_get xs p ≡ slice_get ys p) → xs ≡ ys
same_each [] [] f = refl
same_each [] (y ∷ ys) f = absurd (none_is_not y (f 0))
same_each (x ∷ xs) [] f = absurd (none_is_not x (sym (f 0)))
same_each (x ∷ xs) (y ∷ ys) f = cc (f 0, same_each xs ys (λ p. f (suc p)))

past : (xs : List Specializer) (p : ℕ) → length xs ≤ p → slice_get xs p ≡ None
past [] p h = refl
past (x ∷ xs) zero h = absurd (omega (arith, h))
past (x ∷ xs) (suc p) h = past xs p (omega (arith, h))

same_at : (args : List Argument) (xs ys : List Specializer) → length xs ≡ length args → length ys ≡ length args
    → ((p : ℕ) → FitsAt (slice_get args p) (slice_get xs p)) → ((p : ℕ) → FitsAt (slice_get args p) (slice_get ys p))
    → ((p : ℕ) → p < length args → ranks args xs p ≡ ranks args ys p) → (p : ℕ) → (p < length args) ⊎ (length args ≤ p) → slice_get xs p ≡ slice_get ys p
unfolding ranks
same_at args xs ys e d f g r p (inl h) = same_by_rank (slice_get args p) (slice_get xs p) (slice_get ys p) (f p) (g p) (r p h)
same_at args xs ys e d f g r p (inr h) = past xs p (omega (arith, h, e)) ∙ sym (past ys p (omega (arith, h, d)))

pub same_by_ranks : (args : List Argument) (xs ys : List Specializer) → length xs ≡ length args → length ys ≡ length args
    → ((p : ℕ) → FitsAt (slice_get args p) (slice_get xs p)) → ((p : ℕ) → FitsAt (slice_get args p) (slice_get ys p))
    → ((p : ℕ) → p < length args → ranks args xs p ≡ ranks args ys p) → xs ≡ ys
same_by_ranks args xs ys e d f g r = same_each xs ys (λ p. same_at args xs ys e d f g r p (cases_lt p (length args)))
