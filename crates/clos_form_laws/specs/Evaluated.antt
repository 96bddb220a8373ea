-- Evaluation comes to no form that is not well formed where it stands: what such a form meant would be no matter (HyperSpec 3.1.2.1).
use Rattle.std.specs.Prelude.{◌≡◌, ℕ, zero, suc, [], Option, Some, None, if◌then◌else◌}
use Rattle.clos_forms.specs.Form.{Form}
use Rattle.clos_forms.specs.WellFormed.{is_well_formed}
use Rattle.clos_forms.specs.declared.part.Context.{Context as Standing}
use Rattle.clos_forms.specs.declared.part.Context.TheVariants.{Effective as InEffective, Method as InMethod, Plain}
use Rattle.clos_meaning.specs.Contexts.{Context, known}
use Rattle.clos_meaning.specs.Dispatch.{Dispatch}
use Rattle.clos_meaning.specs.Meaning.{body, closed, evaluation}
use Rattle.clos_meaning.specs.Outcome.{Eval, step_then, stopped}
use Rattle.clos_meaning.specs.declared.arguments.Running.{Running}
use Rattle.clos_meaning.specs.clos_world.World.{State, unbound}
use Rattle.clos_meaning.specs.clos_world.declared.condition.ConditionKind.TheVariants.{DepthLimit}
use Rattle.clos_syntax.specs.WellFormed.{IsPlain}
use Rattle.clos_form_laws.specs.Kept.{AreWellFormed}

-- in the body of a method, in an effective form, or elsewhere
abbrev pub standing_of : Option Running → Option Dispatch → Standing
standing_of (Some r) call = InMethod
standing_of None (Some d) = InEffective
standing_of None None = Plain

-- where a form stands that is evaluated in this context
abbrev pub standing_in : Context → Standing
standing_in env = standing_of env.running env.call

-- the meaning of forms, but that those that are not well formed where they stand mean anything
abbrev pub meaning_or : Eval → ℕ → Eval
meaning_or any zero env f w s = step_then (stopped DepthLimit []) w s
meaning_or any (suc n) env f w s = if is_well_formed (standing_in env) f then step_then (body (meaning_or any n) env f) w s else any env f w s

-- A well-formed form comes to the same whatever those mean, where the forms that the state keeps are well formed.
abbrev pub OtherFormsAreNoMatter : Type 0
OtherFormsAreNoMatter = (any : Eval) (room : ℕ) (f : Form) (w : State) (s : ℕ)
    → AreWellFormed w → IsPlain f → closed (meaning_or any room (known []) f (unbound w) s) ≡ evaluation room f w s
