-- How many notices a dependent hears.
use Rattle.std.proofs.Common.{◌≡◌, ℕ, suc, ◌==◌, ◌+◌, Bool, true, false, true≢false, List, [], ◌∷◌, arith, refl, ap, sym, ◌∙◌}
use Rattle.std.specs.Prelude.{◌||◌, if◌then◌else◌}
use Rattle.std.specs.List.{list_any}
use Rattle.std.proofs.lemmas.Bool.{eq-eqb, eqb-true}
use Rattle.clos_watch.specs.Watching.{Watching, changed, has, times_told}
use Rattle.clos_watch.specs.declared.notice.Notice.{Notice}

eq_turned : (x y : ℕ) → (x == y) ≡ (y == x)
eq_turned x y = by (x == y) (y == x) refl refl
  where
    by : (a b : Bool) → (x == y) ≡ a → (y == x) ≡ b → a ≡ b
    by true true e f = refl
    by true false e f = absurd (true≢false (sym (eq-eqb y x (sym (eqb-true x y e))) ∙ f))
    by false true e f = absurd (true≢false (sym (eq-eqb x y (sym (eqb-true y x f))) ∙ e))
    by false false e f = refl

pub any_turned : (xs : List ℕ) (n : ℕ) → list_any (λ y. y == n) xs ≡ has xs n
any_turned [] n = refl
any_turned (x ∷ xs) n = ap (λ b. b || list_any (λ y. y == n) xs) (eq_turned x n) ∙ ap (λ b. n == x || b) (any_turned xs n)

pub times_more : (w : Watching) (x : Notice) (xs all : List Notice) (p times : ℕ) → times + times_told w (x ∷ xs) p ≡ times_told w all p
    → has (w (changed x)) p ≡ true
    → times + 1 + times_told w xs p ≡ times_told w all p
times_more w x xs all p times e h =
    let q : times_told w (x ∷ xs) p ≡ suc (times_told w xs p) = ap (λ b. if b then suc (times_told w xs p) else times_told w xs p) h in omega (arith, e, q)

pub times_same : (w : Watching) (x : Notice) (xs all : List Notice) (p times : ℕ) → times + times_told w (x ∷ xs) p ≡ times_told w all p
    → has (w (changed x)) p ≡ false
    → times + times_told w xs p ≡ times_told w all p
times_same w x xs all p times e h =
    let q : times_told w (x ∷ xs) p ≡ times_told w xs p = ap (λ b. if b then suc (times_told w xs p) else times_told w xs p) h in omega (arith, e, q)
