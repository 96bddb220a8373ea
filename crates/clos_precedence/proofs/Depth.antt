-- A class that has a list is found in as many rounds as there are classes.
use Rattle.std.proofs.Common.{◌≡◌, ℕ, ◌==◌, Bool, true, false, List, [], ◌∷◌, inl, inr, refl, subst}
use Rattle.std.specs.Prelude.{◌||◌, ◌⊎◌}
use Rattle.clos_precedence.specs.Precedence.{Supers, has, Next, InTurn}
use Rattle.clos_precedence.proofs.Truth.{nothing}
use Rattle.clos_precedence.proofs.Members.{Once, has_first, first_or_later}

-- ---- what comes in turn stands once, and is one of all

second_false : (a b : Bool) → (a || b) ≡ false → b ≡ false
second_false true b h = cc
second_false false b h = h

abbrev Fresh : List ℕ → List ℕ → ℕ → Type 0
Fresh all done x = (has done x ≡ false) × (has all x ≡ true)

later_fresh : (all done : List ℕ) (x y : ℕ) → Fresh all (y ∷ done) x → Fresh all done x
later_fresh all done x y p = (second_false (y == x) (has done x) p.0, p.1)

none_done_by : (f : Supers) (all done ys : List ℕ) (x y : ℕ) → Next f all done y → (y ≡ x) ⊎ (has ys x ≡ true) → (has ys x ≡ true → Fresh all (y ∷ done) x) → Fresh all done x
none_done_by f all done ys x y n (inl e) r = subst (λ v. Fresh all done v) e (n.1, n.0)
none_done_by f all done ys x y n (inr h) r = later_fresh all done x y (r h)

pub none_done : (f : Supers) (all done l : List ℕ) (x : ℕ) → InTurn f all done l → has l x ≡ true → Fresh all done x
none_done f all done [] x t h = nothing h
none_done f all done (y ∷ ys) x t h = none_done_by f all done ys x y t.0 (first_or_later y x ys h) (λ k. none_done f all (y ∷ done) ys x t.1 k)

later_only : (f : Supers) (all done xs : List ℕ) (x : ℕ) (b : Bool) → InTurn f all (x ∷ done) xs → has xs x ≡ b → has xs x ≡ false
later_only f all done xs x true t e = let p : Fresh all (x ∷ done) x = none_done f all (x ∷ done) xs x t e in let q : has (x ∷ done) x ≡ true = has_first x done in cc
later_only f all done xs x false t e = e

pub each_once : (f : Supers) (all done l : List ℕ) → InTurn f all done l → Once l
each_once f all done [] t = tt
each_once f all done (x ∷ xs) t = (later_only f all done xs x (has xs x) t.1 refl, each_once f all (x ∷ done) xs t.1)
