-- Definition forms whose forms are evaluated: those that are refused, and those that go on.
use Rattle.std.proofs.Common.{◌≡◌, ℕ, List, ◌∷◌, Option, Some, None, Result, Ok, Err, length, refl, ap, sym, ◌∙◌, subst, arith}
use Rattle.lisp_data.specs.Value.{Val, class, generic, method}
use Rattle.lisp_data.specs.declared.value.Value.{Value}
use Rattle.clos_forms.specs.declared.operator.FunctionName.{FunctionName}
use Rattle.clos_machine.specs.clos_world.clos_generic.Table.{number}
use Rattle.clos_syntax.specs.clos_defclass.declared.class.ClassDefinition.{ClassDefinition}
use Rattle.clos_syntax.specs.declared.generic.GenericDefinition.{GenericDefinition}
use Rattle.clos_syntax.specs.declared.method.MethodDefinition.{MethodDefinition}
use Rattle.clos_effects.specs.clos_watch.declared.notice.Notice.{Notice}
use Rattle.clos_machine.specs.clos_world.World.{State}
use Rattle.clos_machine.specs.clos_world.declared.condition.Condition.{Condition}
use Rattle.clos_machine.specs.clos_world.declared.condition.Stop.{Stop}
use Rattle.clos_machine.specs.clos_world.declared.condition.Stop.TheVariants.{Refused, Storage}
use Rattle.clos_effects.specs.clos_definition.Class.{accessors_concerned, class_concerned, class_concerned_by, class_notices, class_number, class_refusal, lists_concerned, noting, with_accessors, with_class, with_defined_class}
use Rattle.clos_effects.specs.clos_definition.Effect.{concerned_by, with_effect}
use Rattle.clos_effects.specs.clos_definition.Generic.{generic_concerned, generic_refusal, with_defined_generic}
use Rattle.clos_effects.specs.clos_definition.Method.{method_concerned, method_refusal, with_defined_method}
use Rattle.clos_effects.specs.clos_definition.Refusal.{StopsFor}
use Rattle.clos_effects.specs.clos_definition.Removal.{Finds, concerned_by_removal, removable, with_removed}
use Rattle.clos_effects.specs.clos_definition.declared.effect.Effect.{Effect}
use Rattle.clos_machine.specs.Machine.{Answers}
use Rattle.clos_machine.specs.clos_meaning.Outcome.{Run, Stopped, leaves}
use Rattle.clos_machine.specs.clos_world.clos_cache.Cache.{Change}
use Rattle.clos_making.specs.Made.{class_made, concerned_if, generic_made, method_made, removed_if, unless, value_at, values_concerned, values_removed}
use Rattle.clos_effects.specs.Effects.{AnswersNoting, takes_effect}

-- a run that does the same from there
pub answers_same : (run run' : Run) (w : State) (s : ℕ) (r : Result Value Stop) (x : State) (j : ℕ) → ((i : ℕ) → run w i ≡ run' w i)
    → Answers run w s r x j → Answers run' w s r x j
answers_same run run' w s (Ok v) x j e a = sym (e s) ∙ a
answers_same run run' w s (Err (Refused c)) x j e a = sym (e s) ∙ a
answers_same run run' w s (Err Storage) x j e a = (a.0, a.1, subst (λ o. leaves o x 0) (e a.0) a.2)

-- ---- a check, and then what goes on

module _ (o : Option Condition) (go : Run) (w u : State) where
  -- It is refused, in a state that is the same.
  pub stops_at : (s : ℕ) (stop : Stop) → u ≡ w → leaves (unless o go w 0) w 0 → StopsFor o stop → Answers (unless o go) w s (Err stop) u s
  stops_at s (Refused c) e l h = ap (λ x. unless x go w s) h ∙ ap (λ v. Stopped c v s) (sym e)
  stops_at s Storage e l h = (0, omega arith, subst (λ v. leaves (unless o go w 0) v 0) (sym e) l)

  -- .. and notes nothing
  stops_noting : (cs : List Change) (s : ℕ) (stop : Stop) → u ≡ w → StopsFor o stop → AnswersNoting cs (unless o go) w s (Err stop) u s
  stops_noting cs s (Refused c) e h = ap (λ x. unless x go w s) h ∙ ap (λ v. Stopped c v s) (sym e)
  stops_noting cs s Storage e h = (e, refl)

-- no memory for the first step
pub storage_at : (run : Run) (w : State) (s : ℕ) → leaves (run w 0) w 0 → Answers run w s (Err Storage) w s
storage_at run w s l = (0, omega arith, l)

-- ---- effects, whose concerns are noted

-- a run that does the same from there
pub noting_same : (cs : List Change) (run run' : Run) (w : State) (s : ℕ) (r : Result Value Stop) (x : State) (j : ℕ) → ((i : ℕ) → run w i ≡ run' w i)
    → AnswersNoting cs run w s r x j → AnswersNoting cs run' w s r x j
noting_same cs run run' w s (Ok v) x j e a = sym (e s) ∙ a
noting_same cs run run' w s (Err (Refused c)) x j e a = sym (e s) ∙ a
noting_same cs run run' w s (Err Storage) x j e a = a

-- a check that is passed
passes_noting : (cs : List Change) (o : Option Condition) (go : Run) (w : State) (s j : ℕ) (x : State) (r : Result Value Stop) → o ≡ None
    → AnswersNoting cs go w s r x j → AnswersNoting cs (unless o go) w s r x j
passes_noting cs o go w s j x r h a = noting_same cs go (unless o go) w s r x j (λ i. sym (ap (λ p. unless p go w i) h)) a

-- with an effect that is the same
takes_same : (cs cs' : List Change) (v v' : Val) (x x' w u y : State) (s j : ℕ) (r : Result Value Stop) → u ≡ w → cs ≡ cs' → v ≡ v' → x ≡ x'
    → AnswersNoting cs (takes_effect cs v x) u s r y j → AnswersNoting cs' (takes_effect cs' v' x') w s r y j
takes_same cs cs' v v' x x' w u y s j r e q h g a =
    subst (λ p. AnswersNoting cs' (takes_effect cs' v' p) w s r y j) g
    (subst (λ p. AnswersNoting cs' (takes_effect cs' p x) w s r y j) h
    (subst (λ p. AnswersNoting p (takes_effect p v x) w s r y j) q (subst (λ p. AnswersNoting cs (takes_effect cs v x) p s r y j) e a)))

-- ---- defmethod

module _ (name : FunctionName) (m : MethodDefinition) (w u : State) (s : ℕ) where
  abbrev method_effect : List (Option Val) → Run
  method_effect vs = takes_effect (method_concerned name m vs w) (method (length w.generics.methods)) (with_defined_method name m vs w)

  pub method_not_made : (vs : List (Option Val)) (stop : Stop) → u ≡ w → StopsFor (method_refusal name m (Some vs) w) stop
      → AnswersNoting (method_concerned name m vs w) (method_made name m vs) w s (Err stop) u s
  method_not_made vs stop e h = stops_noting (method_refusal name m (Some vs) w) (method_effect vs) w u (method_concerned name m vs w) s stop e h

  pub method_is_made : (vs : List (Option Val)) (f : Effect) (n j : ℕ) (x : State) (r : Result Value Stop) → u ≡ w → method_refusal name m (Some vs) w ≡ None
      → with_effect f w ≡ with_defined_method name m vs w → concerned_by f w.generics ≡ method_concerned name m vs w → n ≡ length w.generics.methods
      → AnswersNoting (concerned_by f u.generics) (takes_effect (concerned_by f u.generics) (method n) (with_effect f u)) u s r x j
      → AnswersNoting (method_concerned name m vs w) (method_made name m vs) w s r x j
  method_is_made vs f n j x r e h g c q a =
      passes_noting (method_concerned name m vs w) (method_refusal name m (Some vs) w) (method_effect vs) w s j x r h
      (takes_same (concerned_by f u.generics) (method_concerned name m vs w) (method n) (method (length w.generics.methods)) (with_effect f u) (with_defined_method name m vs w) w u x s j r e
      (ap (λ (y : State). concerned_by f y.generics) e ∙ c) (ap method q) (ap (with_effect f) e ∙ g) a)

-- ---- defgeneric

module _ (d : GenericDefinition) (w u : State) (s : ℕ) where
  abbrev generic_effect : List (Option Val) → Run
  generic_effect vs = takes_effect (generic_concerned d vs w) (generic (number w.generics d.name)) (with_defined_generic d vs w)

  pub generic_not_made : (vs : List (Option Val)) (stop : Stop) → u ≡ w → StopsFor (generic_refusal d (Some vs) w) stop
      → AnswersNoting (generic_concerned d vs w) (generic_made d vs) w s (Err stop) u s
  generic_not_made vs stop e h = stops_noting (generic_refusal d (Some vs) w) (generic_effect vs) w u (generic_concerned d vs w) s stop e h

  pub generic_is_made : (vs : List (Option Val)) (f : Effect) (n j : ℕ) (x : State) (r : Result Value Stop) → u ≡ w → generic_refusal d (Some vs) w ≡ None
      → with_effect f w ≡ with_defined_generic d vs w → concerned_by f w.generics ≡ generic_concerned d vs w → n ≡ number w.generics d.name
      → AnswersNoting (concerned_by f u.generics) (takes_effect (concerned_by f u.generics) (generic n) (with_effect f u)) u s r x j
      → AnswersNoting (generic_concerned d vs w) (generic_made d vs) w s r x j
  generic_is_made vs f n j x r e h g c q a =
      passes_noting (generic_concerned d vs w) (generic_refusal d (Some vs) w) (generic_effect vs) w s j x r h
      (takes_same (concerned_by f u.generics) (generic_concerned d vs w) (generic n) (generic (number w.generics d.name)) (with_effect f u) (with_defined_generic d vs w) w u x s j r e
      (ap (λ (y : State). concerned_by f y.generics) e ∙ c) (ap generic q) (ap (with_effect f) e ∙ g) a)

-- ---- defclass

module _ (d : ClassDefinition) (w u : State) (s : ℕ) where
  abbrev class_effect : List (Option Val) → Run
  class_effect vs = takes_effect (class_concerned d vs w) (class (class_number d w)) (with_defined_class d vs w)

  pub class_not_made : (vs : List (Option Val)) (n : ℕ) (stop : Stop) → u ≡ w → n ≡ length vs → StopsFor (class_refusal d n w) stop
      → AnswersNoting (class_concerned d vs w) (class_made d vs) w s (Err stop) u s
  class_not_made vs n stop e q h =
      stops_noting (class_refusal d (length vs) w) (class_effect vs) w u (class_concerned d vs w) s stop e
      (subst (λ i. StopsFor (class_refusal d i w) stop) q h)

  pub class_is_made : (vs : List (Option Val)) (f : Effect) (n c j : ℕ) (x : State) (r : Result Value Stop) → u ≡ w → n ≡ length vs → class_refusal d n w ≡ None
      → ((told : List Notice) → with_effect f (noting told w) ≡ with_accessors d (noting told w)) → concerned_by f w.generics ≡ accessors_concerned d w
      → c ≡ class_number d w
      → AnswersNoting (class_concerned_by d vs f u) (takes_effect (class_concerned_by d vs f u) (class c) (with_class d vs (with_effect f (noting (class_notices d u) u)))) u s r x j
      → AnswersNoting (class_concerned d vs w) (class_made d vs) w s r x j
  class_is_made vs f n c j x r e p h g k q a =
      passes_noting (class_concerned d vs w) (class_refusal d (length vs) w) (class_effect vs) w s j x r
      (ap (λ i. class_refusal d i w) (sym p) ∙ h)
      (takes_same (class_concerned_by d vs f u) (class_concerned d vs w) (class c) (class (class_number d w)) (with_class d vs (with_effect f (noting (class_notices d u) u))) (with_defined_class d vs w)
      w u x s j r e (ap (class_concerned_by d vs f) e ∙ ap (λ l. lists_concerned d vs w ∷ l) k) (ap class q)
      (ap (with_class d vs) (ap (λ v. with_effect f (noting (class_notices d v) v)) e ∙ g (class_notices d w))) a)

-- ---- remove-method

module _ (vs : List (Option Val)) (w : State) (s : ℕ) where
  pub removal_not_begun_yet : AnswersNoting (values_concerned vs w) (values_removed vs) w s (Err Storage) w s
  removal_not_begun_yet = (refl, refl)

  not_found : (stop : Stop) → Finds (removable (value_at vs 0) (value_at vs 1)) (Err stop) → AnswersNoting (values_concerned vs w) (values_removed vs) w s (Err stop) w s
  not_found (Refused c) h = ap (λ p. removed_if (value_at vs 0) p w s) h
  not_found Storage h = removal_not_begun_yet

  pub not_removable : (f m : Val) (stop : Stop) → f ≡ value_at vs 0 → m ≡ value_at vs 1 → Finds (removable f m) (Err stop)
      → AnswersNoting (values_concerned vs w) (values_removed vs) w s (Err stop) w s
  not_removable f m stop e q h = not_found stop (subst (λ x. Finds (removable x (value_at vs 1)) (Err stop)) e (subst (λ x. Finds (removable f x) (Err stop)) q h))

  pub is_removed : (f m : Val) (g n j : ℕ) (u : State) (r : Result Value Stop) → f ≡ value_at vs 0 → m ≡ value_at vs 1 → removable f m ≡ Ok (g, n)
      → AnswersNoting (concerned_by_removal g n w.generics) (takes_effect (concerned_by_removal g n w.generics) f (with_removed g n w)) w s r u j
      → AnswersNoting (values_concerned vs w) (values_removed vs) w s r u j
  is_removed f m g n j u r e q h a =
      let p : removable (value_at vs 0) (value_at vs 1) ≡ Ok (g, n) = ap (λ x. removable x (value_at vs 1)) (sym e) ∙ ap (removable f) (sym q) ∙ h in
      subst (λ o. AnswersNoting (concerned_if o w) (removed_if (value_at vs 0) o) w s r u j) (sym p)
      (subst (λ x. AnswersNoting (concerned_by_removal g n w.generics) (takes_effect (concerned_by_removal g n w.generics) x (with_removed g n w)) w s r u j) e a)
