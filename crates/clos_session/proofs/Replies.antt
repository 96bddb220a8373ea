-- What a session replies, by what its form did.
use Rattle.std.proofs.Common.{◌≡◌, ◌-◌, ℕ, List, Result, Ok, Err, arith, subst}
use Rattle.std.specs.Prelude.{ℤ, IfErr}
use Rattle.lisp_data.specs.Datum.{Dat}
use Rattle.lisp_data.specs.declared.value.Value.{Value}
use Rattle.clos_perform.specs.Step.{step}
use Rattle.clos_perform.specs.clos_definition_forms.clos_effects.Effects.{SameAtStorage}
use Rattle.clos_perform.specs.clos_machine.Machine.{AnswersWith, leaves_by}
use Rattle.clos_perform.specs.clos_machine.Uses.{KeepsBy, MadeSome}
use Rattle.clos_perform.specs.clos_machine.clos_meaning.Host.{Host}
use Rattle.clos_perform.specs.clos_machine.clos_meaning.Outcome.{Run}
use Rattle.clos_perform.specs.clos_machine.clos_meaning.Uses.{notes_by}
use Rattle.clos_perform.specs.clos_world.Definitions.{Same}
use Rattle.clos_perform.specs.clos_world.World.{State}
use Rattle.clos_perform.specs.clos_world.clos_cache.Uses.{Uses}
use Rattle.clos_perform.specs.clos_world.declared.condition.Stop.{Stop}
use Rattle.clos_perform.specs.clos_world.declared.condition.Stop.TheVariants.{Refused, Storage}
use Rattle.clos_perform.proofs.Definitions.{answered_refused, ends_refused, step_refused}
use Rattle.clos_session.specs.Session.{Replies}
use Rattle.clos_session.specs.Uses.{MakesUses}
use Rattle.clos_session.specs.declared.session.Reply.TheVariants.{Storage as stored_after}

-- where memory was refused, the steps taken are those that are gone
pub stored : (host : Host) (run : Run) (w w' : State) (s s' : ℕ) (past past' : List ℤ) (stop : Stop) → stop ≡ Storage
    → AnswersWith host run w s past (Err stop) w' s' past'
    → Replies host run s w past (stored_after (s - s')) w' past'
stored host run w w' s s' past past' Storage h e =
    (e.0, omega arith, e.1, subst (λ k. leaves_by host (run w k) e.0 w' 0) (omega (arith, e.3)) e.4)
stored host run w w' s s' past past' (Refused c) h e = absurd (cc h)

-- .. as what is kept of calls has it
pub kept_stored : (host : Host) (run : Run) (w : State) (s s' : ℕ) (past past' : List ℤ) (u u' : Uses) (stop : Stop) → stop ≡ Storage
    → KeepsBy host run w s past u (Err stop) s' past' u' → MakesUses host run s w past u (stored_after (s - s')) past' u'
kept_stored host run w s s' past past' u u' Storage h e =
    (e.0, e.1, subst (λ k. MadeSome (notes_by host (run w k) e.0) u u') (omega (arith, e.3)) e.4)
kept_stored host run w s s' past past' u u' (Refused c) h e = absurd (cc h)

-- a form that stops defines nothing
pub stops_same : (host : Host) (d : Dat) (w u : State) (s k : ℕ) (past past' : List ℤ) (r : Result Value Stop)
    → AnswersWith host (step d) w s past r u k past' → SameAtStorage r w u → IfErr r (λ e. Same w u)
stops_same host d w u s k past past' (Ok v) h g = tt
stops_same host d w u s k past past' (Err (Refused c)) h g =
    (subst (ends_refused w) h.2 (answered_refused host w (step d w s) h.0 (step_refused d w s))).0
stops_same host d w u s k past past' (Err Storage) h g = g
