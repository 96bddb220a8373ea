-- The methods that initargs reach.
use Rattle.std.proofs.Common.{◌≡◌, Bool, List, [], ◌∷◌, ◌++◌, ap, refl, subst, sym, ◌∙◌}
use Rattle.std.specs.Prelude.{◌||◌}
use Rattle.std.specs.List.{list_any}
use Rattle.std.proofs.lemmas.List.Folds.{list_any-append}
use Rattle.clos_machine.specs.clos_meaning.Outcome.{Note}
use Rattle.clos_machine.specs.clos_meaning.Uses.{most, with_note}
use Rattle.clos_machine.specs.clos_world.Uses.{AtMostOneMore}
use Rattle.clos_machine.specs.clos_world.clos_cache.Uses.{Uses}
use Rattle.clos_machine.specs.Uses.{MadeSome}

-- one of either list
pub either_any : {X : Type 0} (p : X → Bool) (xs ys : List X) (b c : Bool) → b ≡ list_any p xs → c ≡ list_any p ys → (b || c) ≡ list_any p (xs ++ ys)
either_any p xs ys b c e h = ap (λ x. x || c) e ∙ ap (λ x. list_any p xs || x) h ∙ sym (list_any-append p xs ys)

-- the first use was made, and the second refused
pub second_refused : (n n' : Note) (u mid u' : Uses) → mid ≡ with_note n u → AtMostOneMore most mid u' → MadeSome (n ∷ n' ∷ []) u u'
second_refused n n' u mid u' e h = record { made = n ∷ []; left = n' ∷ []; first = refl; kept = subst (λ x. AtMostOneMore most x u') e h }
