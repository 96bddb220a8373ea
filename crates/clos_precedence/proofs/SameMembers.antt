-- A class precedence list does not depend on how its family is listed.
use Rattle.std.proofs.Common.{◌≡◌, ℕ, true, List, [], ◌∷◌, Option, Some, None, inl, inr, refl, sym, ap, ◌∙◌}
use Rattle.std.specs.Prelude.{◌⊎◌}
use Rattle.clos_precedence.specs.Precedence.{Supers, has, are_before_done, is_free, Next, InTurn, IsPrecedenceList, precedence_list, IsFamily, Tells}
use Rattle.clos_precedence.proofs.Truth.{both, same_truth}
use Rattle.clos_precedence.proofs.Members.{has_first, has_later}
use Rattle.clos_precedence.proofs.Next.{free_at}
use Rattle.clos_precedence.proofs.OnPrecedence.{tells}

abbrev pub Same : List ℕ → List ℕ → Type 0
Same xs ys = (x : ℕ) → has xs x ≡ has ys x

free_within : (f : Supers) (a b done : List ℕ) (x : ℕ) → ((k : ℕ) → has b k ≡ true → has a k ≡ true) → is_free f a done x ≡ true → is_free f b done x ≡ true
free_within f a [] done x s h = refl
free_within f a (k ∷ ks) done x s h =
    both (are_before_done done x k (f k)) (is_free f ks done x) (free_at f a done x k h (s k (has_first k ks))) (free_within f a ks done x (λ j g. s j (has_later k j ks g)) h)

same_free : (f : Supers) (a b done : List ℕ) (x : ℕ) → Same a b → is_free f a done x ≡ is_free f b done x
same_free f a b done x s =
    same_truth (is_free f a done x) (is_free f b done x) (free_within f a b done x (λ k h. s k ∙ h)) (free_within f b a done x (λ k h. sym (s k) ∙ h))

same_next : (f : Supers) (a b done : List ℕ) (x : ℕ) → Same a b → Next f a done x → Next f b done x
same_next f a b done x s p =
    (sym (s x) ∙ p.0, p.1, sym (same_free f a b done x s) ∙ p.2, λ y h n e. p.3 y (s y ∙ h) n (same_free f a b done y s ∙ e))

same_turns : (f : Supers) (a b done l : List ℕ) → Same a b → InTurn f a done l → InTurn f b done l
same_turns f a b done [] s p = tt
same_turns f a b done (x ∷ xs) s p = (same_next f a b done x s p.0, same_turns f a b (x ∷ done) xs s p.1)

same_list : (f : Supers) (a b l : List ℕ) → Same a b → IsPrecedenceList f a l → IsPrecedenceList f b l
same_list f a b l s p = (same_turns f a b [] l s p.0, λ x h. p.1 x (s x ∙ h))

below_by : (f : Supers) (c : ℕ) (a b : List ℕ) (y : ℕ) → Same a b → (y ≡ c) ⊎ ((k : ℕ) × (has a k ≡ true) × (has (f k) y ≡ true)) → (y ≡ c) ⊎ ((k : ℕ) × (has b k ≡ true) × (has (f k) y ≡ true))
below_by f c a b y s (inl e) = inl e
below_by f c a b y s (inr q) = inr (q.0, sym (s q.0) ∙ q.1, q.2)

pub same_family : (f : Supers) (c : ℕ) (a b : List ℕ) → Same a b → IsFamily f c a → IsFamily f c b
same_family f c a b s m = record {
  self = sym (s c) ∙ m.self;
  upward = λ k x h g. sym (s x) ∙ m.upward k x (s k ∙ h) g;
  below = λ y h. below_by f c a b y s (m.below y (s y ∙ h));
}

same_told : (f : Supers) (a b : List ℕ) (o p : Option (List ℕ)) → Same a b → Tells f a o → Tells f b p → o ≡ p
same_told f a b None None s g h = refl
same_told f a b None (Some l) s g h = absurd (g.0 l (same_list f b a l (λ x. sym (s x)) h.0))
same_told f a b (Some l) None s g h = absurd (h.0 l (same_list f a b l s g.0))
same_told f a b (Some l) (Some m) s g h = ap Some (h.1 l (same_list f a b l s g.0))

pub same_members : (f : Supers) (c : ℕ) (a b : List ℕ) → Same a b → IsFamily f c a → precedence_list f c a ≡ precedence_list f c b
same_members f c a b s m =
    same_told f a b (precedence_list f c a) (precedence_list f c b) s (tells f c a (precedence_list f c a) refl m) (tells f c b (precedence_list f c b) refl (same_family f c a b s m))
