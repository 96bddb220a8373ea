-- A method at its place among ordered ones.
use Rattle.std.proofs.Common.{◌≡◌, ℕ, ◌⊎◌, inl, inr, Bool, true, false, List, [], ◌∷◌, refl, ap, sym, ◌∙◌}
use Rattle.std.specs.Prelude.{if◌then◌else◌}
use Rattle.clos_method.specs.Arguments.{Argument}
use Rattle.clos_method.specs.Laws.{IsMember, HasNoneTwice, StandsAhead}
use Rattle.clos_method.specs.Order.{comes_before, placed}
use Rattle.clos_method.specs.declared.method.Method.{Method}
use Rattle.clos_method.proofs.Before.{Counts, not_before_through, one_way}

module _ (methods : List Method) (order : List ℕ) (args : List Argument) where
  abbrev put : ℕ → List ℕ → List ℕ
  put m ns = placed methods order args m ns

  abbrev before : ℕ → ℕ → Bool
  before n m = comes_before methods order args n m

  -- with a method put among the rest, or before all
  abbrev step : Bool → ℕ → ℕ → List ℕ → List ℕ
  step b m n ns = if b then n ∷ put m ns else m ∷ n ∷ ns

  -- ---- its members

  further : (m n : ℕ) (ns : List ℕ) (k : ℕ) → (m ≡ k) ⊎ IsMember ns k → (m ≡ k) ⊎ IsMember (n ∷ ns) k
  further m n ns k (inl h) = inl h
  further m n ns k (inr h) = inr (inr h)

  member_step : (b : Bool) (m n : ℕ) (ns : List ℕ) (k : ℕ) → (IsMember (put m ns) k → (m ≡ k) ⊎ IsMember ns k) → IsMember (step b m n ns) k → (m ≡ k) ⊎ IsMember (n ∷ ns) k
  member_step true m n ns k rest (inl h) = inr (inl h)
  member_step true m n ns k rest (inr h) = further m n ns k (rest h)
  member_step false m n ns k rest h = h

  pub from_placed : (m : ℕ) (ns : List ℕ) (k : ℕ) → IsMember (put m ns) k → (m ≡ k) ⊎ IsMember ns k
  from_placed m [] k h = h
  from_placed m (n ∷ ns) k h = member_step (before n m) m n ns k (from_placed m ns k) h

  into_step : (b : Bool) (m n : ℕ) (ns : List ℕ) (k : ℕ) → ((m ≡ k) ⊎ IsMember ns k → IsMember (put m ns) k) → (m ≡ k) ⊎ IsMember (n ∷ ns) k → IsMember (step b m n ns) k
  into_step true m n ns k rest (inl h) = inr (rest (inl h))
  into_step true m n ns k rest (inr (inl h)) = inl h
  into_step true m n ns k rest (inr (inr h)) = inr (rest (inr h))
  into_step false m n ns k rest h = h

  pub into_placed : (m : ℕ) (ns : List ℕ) (k : ℕ) → (m ≡ k) ⊎ IsMember ns k → IsMember (put m ns) k
  into_placed m [] k h = h
  into_placed m (n ∷ ns) k h = into_step (before n m) m n ns k (into_placed m ns k) h

  not_twice : (m n : ℕ) (ns : List ℕ) → (IsMember (n ∷ ns) m → ⊥) → (IsMember ns n → ⊥) → (m ≡ n) ⊎ IsMember ns n → ⊥
  not_twice m n ns out once (inl e) = out (inl (sym e))
  not_twice m n ns out once (inr h) = once h

  once_step : (b : Bool) (m n : ℕ) (ns : List ℕ) → (IsMember (n ∷ ns) m → ⊥) → HasNoneTwice (n ∷ ns) → HasNoneTwice (put m ns) → HasNoneTwice (step b m n ns)
  once_step true m n ns out d rest = (λ h. not_twice m n ns out d.0 (from_placed m ns n h), rest)
  once_step false m n ns out d rest = (out, d)

  pub placed_once : (m : ℕ) (ns : List ℕ) → (IsMember ns m → ⊥) → HasNoneTwice ns → HasNoneTwice (put m ns)
  placed_once m [] out d = (λ h. h, tt)
  placed_once m (n ∷ ns) out d = once_step (before n m) m n ns out d (placed_once m ns (λ h. out (inr h)) d.1)

  -- ---- by precedence

  abbrev pub NoneBehind : List ℕ → Type 0
  NoneBehind ns = (a b : ℕ) → StandsAhead ns a b → before b a ≡ false

  abbrev pub AllCount : List ℕ → Type 0
  AllCount ns = (n : ℕ) → IsMember ns n → Counts methods order args n

  behind_first : (m n : ℕ) (ns : List ℕ) (b : ℕ) → Counts methods order args m → AllCount (n ∷ ns) → NoneBehind (n ∷ ns) → before n m ≡ true → (m ≡ b) ⊎ IsMember ns b → before b n ≡ false
  behind_first m n ns b c all sorted h (inl e) = ap (λ k. before k n) (sym e) ∙ one_way methods order args n m (all n (inl refl)) c h
  behind_first m n ns b c all sorted h (inr k) = sorted n b (inl (refl, k))

  behind_new : (m n : ℕ) (ns : List ℕ) (b : ℕ) → Counts methods order args m → AllCount (n ∷ ns) → NoneBehind (n ∷ ns) → before n m ≡ false → (n ≡ b) ⊎ IsMember ns b → before b m ≡ false
  behind_new m n ns b c all sorted h (inl e) = ap (λ k. before k m) (sym e) ∙ h
  behind_new m n ns b c all sorted h (inr k) = not_before_through methods order args b n m (all b (inr k)) (all n (inl refl)) c (sorted n b (inl (refl, k))) h

  sorted_step : (t : Bool) (m n : ℕ) (ns : List ℕ) → before n m ≡ t → Counts methods order args m → AllCount (n ∷ ns) → NoneBehind (n ∷ ns) → NoneBehind (put m ns) → NoneBehind (step t m n ns)
  sorted_step true m n ns h c all sorted rest a b (inl k) = ap (before b) (sym k.0) ∙ behind_first m n ns b c all sorted h (from_placed m ns b k.1)
  sorted_step true m n ns h c all sorted rest a b (inr k) = rest a b k
  sorted_step false m n ns h c all sorted rest a b (inl k) = ap (before b) (sym k.0) ∙ behind_new m n ns b c all sorted h k.1
  sorted_step false m n ns h c all sorted rest a b (inr k) = sorted a b k

  pub placed_sorted : (m : ℕ) (ns : List ℕ) → Counts methods order args m → AllCount ns → NoneBehind ns → NoneBehind (put m ns)
  placed_sorted m [] c all sorted a b (inl k) = absurd k.1
  placed_sorted m [] c all sorted a b (inr k) = absurd k
  placed_sorted m (n ∷ ns) c all sorted a b k =
      sorted_step (before n m) m n ns refl c all sorted (placed_sorted m ns c (λ i h. all i (inr h)) (λ i j h. sorted i j (inr h))) a b k

  -- ---- what stands ahead of what: old ones as before, the new one ahead, or one that comes before it

  pub data Order (m : ℕ) (ns : List ℕ) (a b : ℕ) : Type 0 where
    old : StandsAhead ns a b → Order m ns a b
    new_ahead : m ≡ a → IsMember ns b → Order m ns a b
    new_behind : before a m ≡ true → m ≡ b → Order m ns a b

  order_further : (m n : ℕ) (ns : List ℕ) (a b : ℕ) → Order m ns a b → Order m (n ∷ ns) a b
  order_further m n ns a b (old h) = old (inr h)
  order_further m n ns a b (new_ahead e h) = new_ahead e (inr h)
  order_further m n ns a b (new_behind h e) = new_behind h e

  order_first : (m n : ℕ) (ns : List ℕ) (a b : ℕ) → before n m ≡ true → n ≡ a → (m ≡ b) ⊎ IsMember ns b → Order m (n ∷ ns) a b
  order_first m n ns a b h e (inl k) = new_behind (ap (λ i. before i m) (sym e) ∙ h) k
  order_first m n ns a b h e (inr k) = old (inl (e, k))

  order_step : (t : Bool) (m n : ℕ) (ns : List ℕ) (a b : ℕ) → before n m ≡ t → (StandsAhead (put m ns) a b → Order m ns a b) → StandsAhead (step t m n ns) a b → Order m (n ∷ ns) a b
  order_step true m n ns a b h rest (inl k) = order_first m n ns a b h k.0 (from_placed m ns b k.1)
  order_step true m n ns a b h rest (inr k) = order_further m n ns a b (rest k)
  order_step false m n ns a b h rest (inl k) = new_ahead k.0 k.1
  order_step false m n ns a b h rest (inr k) = old k

  pub placed_order : (m : ℕ) (ns : List ℕ) (a b : ℕ) → StandsAhead (put m ns) a b → Order m ns a b
  placed_order m [] a b (inl k) = absurd k.1
  placed_order m [] a b (inr k) = absurd k
  placed_order m (n ∷ ns) a b k = order_step (before n m) m n ns a b refl (placed_order m ns a b) k
