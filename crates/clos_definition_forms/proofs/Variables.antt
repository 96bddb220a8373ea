-- What defvar and defparameter come to, case by case.
use Rattle.std.proofs.Common.{◌≡◌, ℕ, List, Some, None, Result, Bool, true, false, refl, ap, sym, ◌∙◌}
use Rattle.std.specs.Prelude.{ℤ, if◌then◌else◌}
use Rattle.lisp_data.specs.declared.value.Value.{Value}
use Rattle.clos_forms.specs.Form.{Form}
use Rattle.clos_syntax.specs.declared.variable.VariableDefinition.{VariableDefinition}
use Rattle.clos_eval.specs.Evaluation.{Performs}
use Rattle.clos_eval.specs.clos_machine.Machine.{Answers}
use Rattle.clos_eval.specs.clos_machine.clos_meaning.Host.{Host}
use Rattle.clos_eval.specs.clos_machine.clos_meaning.Outcome.{Out, step_then}
use Rattle.clos_eval.specs.clos_machine.clos_world.Uses.{uses_of}
use Rattle.clos_eval.specs.clos_machine.clos_world.World.{seen}
use Rattle.clos_eval.specs.clos_machine.clos_world.declared.condition.Stop.{Stop}
use Rattle.clos_eval.specs.clos_machine.clos_world.declared.tables.World.{World}
use Rattle.clos_definition_forms.proofs.Evaluated.{performs_alone, performs_as}
use Rattle.clos_definition_forms.specs.Variable.{admits, declared, given_value, keeps_value, named, new_value, variable_defined}

first : (a b : Bool) (x y z : Out) → a ≡ true → b ≡ true → x ≡ (if a then (if b then x else y) else z)
first true true x y z p q = refl
first true false x y z p q = absurd (cc q)
first false b x y z p q = absurd (cc p)

second : (a b : Bool) (x y z : Out) → a ≡ true → b ≡ false → y ≡ (if a then (if b then x else y) else z)
second true false x y z p q = refl
second true true x y z p q = absurd (cc q)
second false b x y z p q = absurd (cc p)

module _ (host : Host) (d : VariableDefinition) (w : World) (s : ℕ) (past : List ℤ) (r : Result Value Stop) (x : World) (j : ℕ) where
  -- the value stays
  pub keeps : admits (seen w) d.name ≡ true → keeps_value (seen w) d.definer d.name ≡ true → Answers (step_then (named d.name)) (seen w) s r (seen x) j
      → uses_of x ≡ uses_of w → Performs host (variable_defined d) w s past r x j past
  keeps p q a e =
      performs_as host (step_then (named d.name)) (variable_defined d) w x s j past past r
      (λ i. first (admits (seen w) d.name) (keeps_value (seen w) d.definer d.name) _ _ _ p q)
      (performs_alone host (step_then (named d.name)) w x s j past r a e)

  -- there is no form
  pub declares : admits (seen w) d.name ≡ true → keeps_value (seen w) d.definer d.name ≡ false → d.form ≡ None
      → Answers (step_then (declared d.name)) (seen w) s r (seen x) j → uses_of x ≡ uses_of w → Performs host (variable_defined d) w s past r x j past
  declares p q e a n =
      performs_as host (step_then (declared d.name)) (variable_defined d) w x s j past past r
      (λ i. ap (λ o. new_value d.name o (seen w) i) (sym e) ∙ second (admits (seen w) d.name) (keeps_value (seen w) d.definer d.name) _
      (new_value d.name d.form (seen w) i) _ p q)
      (performs_alone host (step_then (declared d.name)) w x s j past r a n)

  -- the form gives the value
  pub gives : (f : Form) (past' : List ℤ) → admits (seen w) d.name ≡ true → keeps_value (seen w) d.definer d.name ≡ false → d.form ≡ Some f
      → Performs host (given_value d.name f) w s past r x j past' → Performs host (variable_defined d) w s past r x j past'
  gives f past' p q e a =
      performs_as host (given_value d.name f) (variable_defined d) w x s j past past' r
      (λ i. ap (λ o. new_value d.name o (seen w) i) (sym e) ∙ second (admits (seen w) d.name) (keeps_value (seen w) d.definer d.name) _
      (new_value d.name d.form (seen w) i) _ p q) a
