-- What holds of each of a list.
use Rattle.std.proofs.Common.{ℕ, zero, suc, Bool, true, false, List, [], ◌∷◌, ◌++◌, map, slice_get}
use Rattle.std.specs.List.{filter, flat_map}
use Rattle.std.specs.Prelude.{cond, IfSome}
use Rattle.clos_generic.specs.Sound.{Each}

pub each_append : {X : Type 0} (P : X → Type 0) (xs ys : List X) → Each P xs → Each P ys → Each P (xs ++ ys)
each_append P [] ys h g = g
each_append P (x ∷ xs) ys h g = (h.0, each_append P xs ys h.1 g)

pub each_map : {X Y : Type 0} (P : Y → Type 0) (f : X → Y) → ((x : X) → P (f x)) → (xs : List X) → Each P (map f xs)
each_map P f h [] = tt
each_map P f h (x ∷ xs) = (h x, each_map P f h xs)

pub each_at : {X : Type 0} (P : X → Type 0) (xs : List X) (n : ℕ) → Each P xs → IfSome (slice_get xs n) P
each_at P [] n h = tt
each_at P (x ∷ xs) zero h = h.0
each_at P (x ∷ xs) (suc n) h = each_at P xs n h.1

pub each_kept : {X : Type 0} (P : X → Type 0) (test : X → Bool) (xs : List X) → Each P xs → Each P (filter test xs)
each_kept P test [] h = tt
each_kept P test (x ∷ xs) h =
    elim (test x) as (λ b. Each P (cond b (x ∷ filter test xs) (filter test xs))) [ true ↦ (h.0, each_kept P test xs h.1) | false ↦ each_kept P test xs h.1 ]

pub each_joined : {X Y : Type 0} (P : Y → Type 0) (f : X → List Y) → ((x : X) → Each P (f x)) → (xs : List X) → Each P (flat_map f xs)
each_joined P f h [] = tt
each_joined P f h (x ∷ xs) = each_append P (f x) (flat_map f xs) (h x) (each_joined P f h xs)
