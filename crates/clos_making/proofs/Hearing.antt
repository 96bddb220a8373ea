-- What is heard, from a state that is the same.
use Rattle.std.proofs.Common.{◌≡◌, List, subst}
use Rattle.clos_machine.specs.clos_world.World.{State}
use Rattle.clos_effects.specs.clos_watch.declared.notice.Notice.{Notice}
use Rattle.clos_effects.specs.Hearing.{Heard}

module _ (told told' : List (List Notice)) where
  -- what came before changed nothing
  pub heard_at : (w v u : State) → v ≡ w → Heard told v told' u → Heard told w told' u
  heard_at w v u e h = subst (λ x. Heard told x told' u) e h
