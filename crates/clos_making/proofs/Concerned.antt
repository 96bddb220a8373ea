-- What is concerned, by other words.
use Rattle.std.proofs.Common.{◌≡◌, ℕ, List, Option, Result, Ok, ap, sym, subst, ◌∙◌}
use Rattle.lisp_data.specs.Value.{Val}
use Rattle.lisp_data.specs.declared.value.Value.{Value}
use Rattle.clos_machine.specs.clos_world.Uses.{uses_of}
use Rattle.clos_machine.specs.clos_world.World.{State, seen}
use Rattle.clos_machine.specs.clos_world.clos_cache.Cache.{Change}
use Rattle.clos_machine.specs.clos_world.clos_cache.Uses.{Uses}
use Rattle.clos_machine.specs.clos_world.declared.condition.Stop.{Stop}
use Rattle.clos_machine.specs.clos_world.declared.tables.World.{World}
use Rattle.clos_effects.specs.clos_definition.Effect.{concerned_by}
use Rattle.clos_effects.specs.clos_definition.Removal.{concerned_by_removal, removable}
use Rattle.clos_effects.specs.clos_definition.declared.effect.Effect.{Effect}
use Rattle.clos_effects.specs.Effects.{UsesAfter}
use Rattle.clos_making.specs.Made.{concerned_if, value_at, values_concerned}

-- the same is concerned, in a state that is the same
pub uses_as : (cs cs' : List Change) (w v : World) (r : Result Value Stop) (x : Uses) → seen v ≡ seen w → uses_of v ≡ uses_of w → cs ≡ cs'
    → UsesAfter cs (seen v) (uses_of v) r x → UsesAfter cs' (seen w) (uses_of w) r x
uses_as cs cs' w v r x e q h a =
    subst (λ l. UsesAfter l (seen w) (uses_of w) r x) h
    (subst (λ u. UsesAfter cs (seen w) u r x) q (subst (λ y. UsesAfter cs y (uses_of v) r x) e a))

-- an effect that was prepared
pub effect_uses : (f : Effect) (cs : List Change) (w v : World) (r : Result Value Stop) (x : World) → seen v ≡ seen w → uses_of v ≡ uses_of w
    → concerned_by f (seen w).generics ≡ cs → UsesAfter (concerned_by f (seen v).generics) (seen v) (uses_of v) r (uses_of x)
    → UsesAfter cs (seen w) (uses_of w) r (uses_of x)
effect_uses f cs w v r x e q h a =
    uses_as (concerned_by f (seen v).generics) cs w v r (uses_of x) e q (ap (λ (y : State). concerned_by f y.generics) e ∙ h) a

-- the removal of a method, by its values
pub removal_uses : (vs : List (Option Val)) (w : World) (r : Result Value Stop) (x : World) (f m : Val) (g n : ℕ) → f ≡ value_at vs 0 → m ≡ value_at vs 1
    → removable f m ≡ Ok (g, n) → UsesAfter (concerned_by_removal g n (seen w).generics) (seen w) (uses_of w) r (uses_of x)
    → UsesAfter (values_concerned vs (seen w)) (seen w) (uses_of w) r (uses_of x)
removal_uses vs w r x f m g n e q h a =
    let p : removable (value_at vs 0) (value_at vs 1) ≡ Ok (g, n) = ap (λ y. removable y (value_at vs 1)) (sym e) ∙ ap (removable f) (sym q) ∙ h in
    subst (λ o. UsesAfter (concerned_if o (seen w)) (seen w) (uses_of w) r (uses_of x)) (sym p) a
