-- The methods that a call finds are in order.
use Rattle.std.proofs.Common.{◌≡◌, ℕ, suc, ◌≤◌, List, [], ◌∷◌, length, map, take, Result, Ok, Err, refl, ap, subst, sym, ◌∙◌, arith, length-take}
use Rattle.std.specs.Prelude.{IfOk}
use Rattle.std.proofs.lemmas.List.{length-map}
use Rattle.lisp_data.specs.Value.{Val}
use Rattle.clos_class.specs.Table.{Table}
use Rattle.clos_generic.specs.Sound.{IsSound}
use Rattle.clos_generic.proofs.InOrder.{in_order, only_in_order}
use Rattle.clos_method.specs.Arguments.{arguments_of}
use Rattle.clos_world.specs.Dispatch.{CallsAreInOrder, IsInOrder, arguments, ordered, required_by}
use Rattle.clos_world.specs.World.{State, class_of}

as_many_arguments : (t : Table) (cs : List ℕ) (vs : List Val) → length cs ≡ length vs → length (arguments_of t cs vs) ≡ length vs
as_many_arguments t [] [] h = refl
as_many_arguments t [] (v ∷ vs) h = absurd (omega (arith, h))
as_many_arguments t (c ∷ cs) [] h = absurd (omega (arith, h))
as_many_arguments t (c ∷ cs) (v ∷ vs) h = ap suc (as_many_arguments t cs vs (omega (arith, h)))

taken : (n : ℕ) (vs : List Val) → n ≤ length vs → length (take n vs) ≡ n
taken n vs h = grind (arith, length-take, h)

counted : (w : State) (g : ℕ) (vs : List Val) → required_by w g ≤ length vs
    → length (arguments w (take (required_by w g) vs)) ≡ required_by w g
counted w g vs h =
    as_many_arguments w.classes (map (class_of w) (take (required_by w g) vs)) (take (required_by w g) vs)
    (length-map (take (required_by w g) vs) (class_of w))
    ∙ taken (required_by w g) vs h

pub found_in_order : (w : State) (g : ℕ) (vs : List Val) → IsSound w.generics
    → required_by w g ≤ length vs → IsInOrder w g vs (ordered w g vs)
found_in_order w g vs s h = in_order w.generics g (arguments w (take (required_by w g) vs)) s (counted w g vs h)

pub calls_are_in_order : (w : State) → IsSound w.generics → CallsAreInOrder w
calls_are_in_order w s g vs h = (
  found_in_order w g vs s h,
  λ listed o. only_in_order w.generics g (arguments w (take (required_by w g) vs)) listed s (counted w g vs h) o,
)

-- so is the list that one is
pub in_order_if_ok : {E : Type 0} (w : State) (g : ℕ) (vs : List Val) (n : ℕ) (r : Result (List ℕ) E) → CallsAreInOrder w
    → n ≡ length vs → IfOk r (λ l. l ≡ ordered w g vs) → IfOk r (λ l. required_by w g ≤ n → IsInOrder w g vs l)
in_order_if_ok w g vs n (Ok l) s e h = λ k. subst (IsInOrder w g vs) (sym h) (s g vs (omega (arith, k, e))).0
in_order_if_ok w g vs n (Err x) s e h = tt
