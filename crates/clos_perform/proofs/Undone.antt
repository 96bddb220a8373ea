-- Forms that define nothing, also where memory was refused.
use Rattle.std.proofs.Common.{ℕ, zero, suc, List, Option, Some, None, Result, Bool, true, false}
use Rattle.std.specs.Prelude.{ℤ, if◌then◌else◌}
use Rattle.lisp_data.specs.Name.{Name}
use Rattle.lisp_data.specs.declared.value.Value.{Value}
use Rattle.clos_forms.specs.Form.{Form}
use Rattle.clos_top.specs.clos_syntax.declared.variable.VariableDefinition.{VariableDefinition}
use Rattle.clos_definition_forms.specs.clos_effects.Effects.{SameAtStorage}
use Rattle.clos_definition_forms.specs.clos_machine.Machine.{AnswersWith}
use Rattle.clos_definition_forms.specs.clos_machine.clos_meaning.Host.{Host}
use Rattle.clos_definition_forms.specs.clos_machine.clos_meaning.Meaning.{evaluation}
use Rattle.clos_definition_forms.specs.clos_machine.clos_meaning.Outcome.{Out, Run, step_then}
use Rattle.clos_definition_forms.specs.clos_world.Globals.{is_global}
use Rattle.clos_definition_forms.specs.clos_world.World.{State}
use Rattle.clos_definition_forms.specs.clos_world.declared.condition.Stop.{Stop}
use Rattle.clos_definition_forms.specs.Variable.{admits, declared, keeps_value, named as defined_name, new_value, room_below, value_given, variable_defined}
use Rattle.clos_definition_forms.proofs.Kept.{same_by, then_same}
use Rattle.clos_definition_forms.proofs.clos_machine.clos_meaning.Kept.{SameAfter, evaluation_kept, stays}

choice_same : (b : Bool) (w : State) (x y : Out) → SameAfter w x → SameAfter w y → SameAfter w (if b then x else y)
choice_same true w x y h g = h
choice_same false w x y h g = g

step_same : (run : Run) (w : State) (k : ℕ) → ((j : ℕ) → SameAfter w (run w j)) → SameAfter w (step_then run w k)
step_same run w zero h = stays w
step_same run w (suc k) h = h k

value_same : (name : Name) (o : Option Form) (w : State) (k : ℕ) → SameAfter w (new_value name o w k)
value_same name None w k = step_same (declared name) w k (λ j. choice_same (is_global w.globals name) w _ _ (stays w) (stays w))
value_same name (Some f) w k =
    then_same w (evaluation (room_below w) f w k) (λ v. step_then (value_given name v)) (evaluation_kept (room_below w) f w k)
    (λ v u j. step_same (value_given name v) u j (λ i. stays u))

variable_same : (d : VariableDefinition) (w : State) (k : ℕ) → SameAfter w (variable_defined d w k)
variable_same d w k =
    choice_same (admits w d.name) w _ _
    (choice_same (keeps_value w d.definer d.name) w (step_then (defined_name d.name) w k) (new_value d.name d.form w k)
    (step_same (defined_name d.name) w k (λ j. stays w)) (value_same d.name d.form w k)) (stays w)

module _ (host : Host) (w u : State) (s k : ℕ) (past past' : List ℤ) (r : Result Value Stop) where
  pub variable_undone : (d : VariableDefinition) → AnswersWith host (variable_defined d) w s past r u k past' → SameAtStorage r w u
  variable_undone d h = same_by host (variable_defined d) w u s k past past' (variable_same d w) r h

  pub expression_undone : (room : ℕ) (f : Form) → AnswersWith host (evaluation room f) w s past r u k past' → SameAtStorage r w u
  expression_undone room f h = same_by host (evaluation room f) w u s k past past' (evaluation_kept room f w) r h
