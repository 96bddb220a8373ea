-- Where no step is left.
use Rattle.std.proofs.Common.{◌≡◌, ℕ, zero, suc, [], refl, sym, subst}
use Rattle.clos_forms.specs.Form.{Form}
use Rattle.clos_world.specs.World.{State, unbound}
use Rattle.clos_world.specs.declared.condition.ConditionKind.TheVariants.{StepLimit}
use Rattle.clos_meaning.specs.Contexts.{Context}
use Rattle.clos_meaning.specs.Meaning.{closed, meaning}
use Rattle.clos_meaning.specs.Outcome.{Out, leaves, stopped}

-- the outcome leaves no step, and the state as it was but for variables
abbrev pub Quiet : Out → State → Type 0
Quiet o w = leaves (closed o) (unbound w) 0

-- no step is left for a form
pub no_step : (n : ℕ) (env : Context) (f : Form) (w : State) → meaning n env f w 0 ≡ stopped StepLimit [] w 0
no_step zero env f w = refl
no_step (suc n) env f w = refl

pub evaluation_quiet : (n : ℕ) (env : Context) (f : Form) (w : State) → Quiet (meaning n env f w 0) w
evaluation_quiet n env f w = subst (λ o. leaves (closed o) (unbound w) 0) (sym (no_step n env f w)) (refl, refl)
