-- Effects, whose concerns are noted.
use Rattle.std.proofs.Common.{◌≡◌, ℕ, suc, List, Result, Ok, Err, refl, ap, sym, ◌∙◌, subst}
use Rattle.lisp_data.specs.Value.{Val}
use Rattle.lisp_data.specs.ValueView.{value_of}
use Rattle.lisp_data.specs.declared.value.Value.{Value}
use Rattle.clos_meaning.specs.Outcome.{Gave, Noted, took_effect}
use Rattle.clos_meaning.specs.clos_world.World.{State}
use Rattle.clos_meaning.specs.clos_world.clos_cache.Cache.{Change}
use Rattle.clos_meaning.specs.Outcome.{Run}
use Rattle.clos_meaning.specs.clos_world.Definitions.{Same}
use Rattle.clos_meaning.specs.clos_world.declared.condition.Stop.{Stop}
use Rattle.clos_meaning.specs.clos_world.declared.condition.Stop.TheVariants.{Refused, Storage}
use Rattle.clos_effects.specs.Effects.{AnswersNoting, SameAtStorage, takes_effect}

-- one for which there is no memory
pub effect_not_made : (cs : List Change) (v : Val) (t w u : State) (s : ℕ) → u ≡ w → AnswersNoting cs (takes_effect cs v t) w s (Err Storage) u s
effect_not_made cs v t w u s e = (e, refl)

-- one that is made, in one step
pub effect_is_made : (cs : List Change) (v : Value) (t w u : State) (s k : ℕ) → s ≡ suc k → u ≡ t → AnswersNoting cs (takes_effect cs (value_of v) t) w s (Ok v) u k
effect_is_made cs v t w u s k e h =
    ap (λ n. takes_effect cs (value_of v) t w n) e ∙ ap (λ x. Noted (took_effect w cs) (Gave (value_of v) x k)) (sym h)

-- ---- where memory was refused

pub same_still : (w : State) → Same w w
same_still w = (refl, refl, refl, refl, refl, refl)

pub same_as : (w u : State) → u ≡ w → Same w u
same_as w u e = subst (Same w) (sym e) (same_still w)

-- however it stopped
pub same_stopped : (w u : State) (stop : Stop) → Same w u → SameAtStorage (Err stop) w u
same_stopped w u (Refused c) h = tt
same_stopped w u Storage h = h

-- after what defined nothing
pub same_noted : (cs : List Change) (run : Run) (w v u : State) (s k : ℕ) (r : Result Value Stop) → Same w v → AnswersNoting cs run v s r u k → SameAtStorage r w u
same_noted cs run w v u s k (Ok x) h a = tt
same_noted cs run w v u s k (Err (Refused c)) h a = tt
same_noted cs run w v u s k (Err Storage) h a = subst (Same w) (sym a.0) h

-- what comes later is the same as what was before
pub same_later : (w v u : State) (r : Result Value Stop) → v ≡ w → SameAtStorage r v u → SameAtStorage r w u
same_later w v u r e h = subst (λ x. SameAtStorage r x u) e h
