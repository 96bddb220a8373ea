-- The methods that a call finds are in order.
use Rattle.std.proofs.Common.{◌≡◌, ℕ, List, length, Option, Some, None, Result, Ok, Err, refl, subst, sym, ◌∙◌, arith}
use Rattle.std.specs.Prelude.{IfOk, slice_get}
use Rattle.clos_method.specs.Arguments.{Argument}
use Rattle.clos_method.specs.Laws.{IsCall}
use Rattle.clos_method.proofs.InOrder.{is_the_only_order, lists_in_order}
use Rattle.clos_generic.specs.Calls.{IsInOrder, ordered, precedence_in, required_in, required_of}
use Rattle.clos_generic.specs.Sound.{IsSound}
use Rattle.clos_generic.specs.Table.{Function, Table, methods_in, methods_of}

is_call_of : (t : Table) (g : ℕ) (args : List Argument) (o : Option Function) → IsSound t
    → slice_get t.functions g ≡ o → length args ≡ required_in o → IsCall t.methods (precedence_in o) args (methods_in o)
is_call_of t g args None s h n = record {
  distinct = tt;
  specialized = λ m i. absurd i;
  each_place = λ p i. absurd (omega (arith, n, i));
}
is_call_of t g args (Some f) s h n =
    let k = s.each_function g f h in
    record {
      distinct = k.distinct;
      specialized = λ m i. k.specialized m i ∙ sym n;
      each_place = λ p i. k.places p (omega (arith, n, i));
    }

-- of as many arguments as there are required parameters
pub in_order : (t : Table) (g : ℕ) (args : List Argument) → IsSound t → length args ≡ required_of t g
    → IsInOrder t g args (ordered t g args)
in_order t g args s n =
    lists_in_order t.methods (precedence_in (slice_get t.functions g)) args (methods_of t g)
    (is_call_of t g args (slice_get t.functions g) s refl n)

-- and no other list is
pub only_in_order : (t : Table) (g : ℕ) (args : List Argument) (listed : List ℕ) → IsSound t
    → length args ≡ required_of t g → IsInOrder t g args listed → listed ≡ ordered t g args
only_in_order t g args listed s n o =
    is_the_only_order t.methods (precedence_in (slice_get t.functions g)) args (methods_of t g) listed
    (is_call_of t g args (slice_get t.functions g) s refl n) o

-- so is the list that one is
pub in_order_if_ok : {E : Type 0} (t : Table) (g : ℕ) (args : List Argument) (r : Result (List ℕ) E) → IsSound t
    → IfOk r (λ l. l ≡ ordered t g args) → IfOk r (λ l. length args ≡ required_of t g → IsInOrder t g args l)
in_order_if_ok t g args (Ok l) s h = λ n. subst (IsInOrder t g args) (sym h) (in_order t g args s n)
in_order_if_ok t g args (Err e) s h = tt
