-- Classes that were seen, after others were met.
use Rattle.std.proofs.Common.{◌≡◌, ℕ, ◌==◌, Bool, true, false, List, [], ◌∷◌, refl, sym, subst, ap, ◌∙◌}
use Rattle.std.specs.Prelude.{◌||◌, if◌then◌else◌}
use Rattle.std.proofs.lemmas.Bool.{eqb-true}
use Rattle.clos_precedence.specs.Precedence.{has}
use Rattle.clos_precedence.specs.OrderView.{with_seen, with_all_seen}
use Rattle.clos_precedence.proofs.Lists.{or_false}

was_there : (s : List ℕ) (c x : ℕ) (b : Bool) → (c == x) ≡ b → has s c ≡ true → (b || has s x) ≡ has s x
was_there s c x true e h = sym (subst (λ v. has s v ≡ true) (eqb-true c x e) h)
was_there s c x false e h = refl

met_later : (a b c : Bool) → ((a || b) || c) ≡ (b || (a || c))
met_later true true c = refl
met_later true false c = refl
met_later false b c = refl

seen_one : (s : List ℕ) (c x : ℕ) (b : Bool) → has s c ≡ b → has (if b then s else c ∷ s) x ≡ ((c == x) || has s x)
seen_one s c x true e = sym (was_there s c x (c == x) refl e)
seen_one s c x false e = refl

pub seen_all : (s xs : List ℕ) (x : ℕ) → has (with_all_seen s xs) x ≡ (has s x || has xs x)
seen_all s [] x = sym (or_false (has s x))
seen_all s (c ∷ xs) x =
    seen_all (with_seen s c) xs x ∙ (ap (λ v. v || has xs x) (seen_one s c x (has s c) refl) ∙ met_later (c == x) (has s x) (has xs x))
