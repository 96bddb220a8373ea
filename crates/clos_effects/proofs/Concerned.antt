-- What an effect drops of what is kept is what its note says.
use Rattle.std.proofs.Common.{◌≡◌, ℕ, List, [], ◌∷◌, Bool, true, false, Option, Some, None, refl, ap, ◌∙◌}
use Rattle.std.proofs.Math.Logic.{∥∥₁_elim}
use Rattle.std.proofs.Math.Path.{fun_ext}
use Rattle.std.specs.Coded.{Coded-set, coded_bool}
use Rattle.std.specs.Prelude.{◌||◌, if◌then◌else◌, is_some}
use Rattle.lisp_data.specs.Name.{same_name}
use Rattle.clos_meaning.specs.Outcome.{took_effect}
use Rattle.clos_meaning.specs.Uses.{concerns_calls, one_concerns, with_note}
use Rattle.clos_meaning.specs.clos_world.Dispatch.{combination_of}
use Rattle.clos_meaning.specs.clos_world.Uses.{uses_in, uses_of}
use Rattle.clos_meaning.specs.clos_world.World.{State, seen}
use Rattle.clos_meaning.specs.clos_world.clos_cache.Cache.{Change, DropsAll, Kept, concerns, found, left_after, of_classes, of_combination, of_generic}
use Rattle.clos_meaning.specs.clos_world.clos_cache.Key.{Key}
use Rattle.clos_meaning.specs.clos_world.clos_cache.Uses.{Uses}
use Rattle.clos_meaning.specs.clos_world.declared.effective_method.EffectiveMethod.{EffectiveMethod}
use Rattle.clos_meaning.specs.clos_world.declared.tables.World.{World}

-- ---- under one key

nothing_left : (cs : List Change) (key : Key) (o : Option (Kept EffectiveMethod)) → o ≡ None → is_some (left_after cs key o) ≡ false
nothing_left cs key (Some k) e = absurd (cc e)
nothing_left [] key None e = refl
nothing_left (c ∷ cs) key None e = nothing_left cs key None refl

-- nothing is kept, concerned or not
none_either_way : (b : Bool) → false ≡ (if b then false else false)
none_either_way true = refl
none_either_way false = refl

either_way : (cs : List Change) (key : Key) (k : Kept EffectiveMethod) (b d : Bool) → is_some (left_after cs key (Some k)) ≡ (if d then false else true)
    → is_some (left_after cs key (if b then None else Some k)) ≡ (if (b || d) then false else true)
either_way cs key k true d h = nothing_left cs key None refl
either_way cs key k false d h = h

module _ (w : State) (key : Key) where
  -- what is kept under the name of its function's method combination
  as_noted : (c : Change) (k : Kept EffectiveMethod) → k.combination ≡ combination_of w key.generic → concerns c key k ≡ concerns_calls w c key
  as_noted (of_generic g) k h = refl
  as_noted (of_combination name) k h = ap (same_name name) h
  as_noted (of_classes classes) k h = refl

  kept_left : (cs : List Change) (k : Kept EffectiveMethod) → k.combination ≡ combination_of w key.generic
      → is_some (left_after cs key (Some k)) ≡ (if one_concerns w cs key then false else true)
  kept_left [] k h = refl
  kept_left (c ∷ cs) k h =
      ap (λ (b : Bool). is_some (left_after cs key (if b then None else Some k))) (as_noted c k h)
      ∙ either_way cs key k (concerns_calls w c key) (one_concerns w cs key) (kept_left cs k h)

  is_left : (cs : List Change) (o : Option (Kept EffectiveMethod)) → ((k : Kept EffectiveMethod) → o ≡ Some k → k.combination ≡ combination_of w key.generic)
      → is_some (left_after cs key o) ≡ (if one_concerns w cs key then false else is_some o)
  is_left cs None h = nothing_left cs key None refl ∙ none_either_way (one_concerns w cs key)
  is_left cs (Some k) h = kept_left cs k (h k refl)

-- ---- in all

abbrev uses_with : (Key → Bool) → ℕ → Uses
uses_with f n = record { kept = f; built = n }

module _ (w : World) (cs : List Change) where
  pub left_in : (left : List (Key × Kept EffectiveMethod)) → DropsAll cs w.cache left
      → uses_in left w.meter ≡ with_note (took_effect (seen w) cs) (uses_of w)
  left_in left d =
      let kept : (λ (key : Key). is_some (found left key)) ≡ (λ (key : Key). if one_concerns (seen w) cs key then false else is_some (found w.cache key)) =
      fun_ext (λ key. ap is_some (d key) ∙ ∥∥₁_elim w.kept (Coded-set coded_bool _ _) (λ n.
      is_left (seen w) key cs (found w.cache key) (λ k e. (n.now key k e).combination))) in
      ap (λ (f : Key → Bool). uses_with f w.meter) kept

  pub dropped : (u : World) → DropsAll cs w.cache u.cache → u.meter ≡ w.meter → uses_of u ≡ with_note (took_effect (seen w) cs) (uses_of w)
  dropped u d m = ap (λ n. uses_in u.cache n) m ∙ left_in u.cache d

pub uses_same : (w u : World) → u.cache ≡ w.cache → u.meter ≡ w.meter → uses_of u ≡ uses_of w
uses_same w u e m = ap (λ l. uses_in l u.meter) e ∙ ap (λ n. uses_in w.cache n) m

-- .. where room was made before for what is told of it
pub effect_dropped : (w mid u : World) (cs : State → List Change) → seen mid ≡ seen w → uses_of mid ≡ uses_of w → DropsAll (cs (seen mid)) mid.cache u.cache
    → u.meter ≡ mid.meter → uses_of u ≡ with_note (took_effect (seen w) (cs (seen w))) (uses_of w)
effect_dropped w mid u cs e q d m =
    dropped mid (cs (seen mid)) u d m ∙ ap (with_note (took_effect (seen mid) (cs (seen mid)))) q
    ∙ ap (λ x. with_note (took_effect x (cs x)) (uses_of w)) e
