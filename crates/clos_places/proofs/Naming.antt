-- Names that are set and changed: as the places that they stand for, or as variables.
use Rattle.std.proofs.Common.{◌≡◌, ℕ, List, ◌++◌, Option, Some, None, Result, Ok, ap, ◌∙◌}
use Rattle.lisp_data.specs.Name.{Name}
use Rattle.lisp_data.specs.Value.{Val}
use Rattle.lisp_prims.specs.lisp_functions.declared.primitive.Primitive.{Primitive}
use Rattle.clos_machine.specs.clos_world.Values.{last_first, only_value}
use Rattle.clos_machine.specs.clos_world.World.{State}
use Rattle.clos_machine.specs.clos_world.declared.condition.Stop.{Stop}
use Rattle.clos_machine.specs.clos_meaning.Assignment.{changed_only, stored_only}
use Rattle.clos_machine.specs.clos_meaning.Functions.{place_set, slot_access}
use Rattle.clos_machine.specs.Machine.{Turns, at, inside, resume}
use Rattle.clos_machine.specs.clos_meaning.Meaning.{changed_place, closed, meaning, name_changed}
use Rattle.clos_machine.specs.clos_meaning.Outcome.{Out, Run}
use Rattle.clos_machine.specs.clos_meaning.SlotNames.{name_set, place_denoted}
use Rattle.clos_machine.specs.declared.machine.Action.TheVariants.{ChangePlace, Set}
use Rattle.clos_machine.specs.declared.machine.Doing.{Doing}
use Rattle.clos_machine.specs.declared.machine.Doing.TheVariants.{Act}
use Rattle.clos_machine.specs.declared.machine.Target.TheVariants.{SlotValue}
use Rattle.clos_machine.specs.declared.machine.Machine.{Machine}
use Rattle.clos_machine.proofs.Runs.{turns_of_leads, turns_same}

module _ (m : Machine) (name : Name) (vs : List Val) (w : State) (s : ℕ) where
  abbrev pub setting : Run
  setting u k = name_set (meaning m.room) m.context name (place_denoted u name) vs u k

  abbrev pub changing : Primitive → Run
  changing p u k = name_changed (meaning m.room) m.context p name (place_denoted u name) vs u k

  -- the same, where it stands for this
  abbrev as_set : ℕ → Option (List Val) → Out
  as_set t o = closed (resume m.levels m.context (name_set (meaning m.room) m.context name o vs (at m w) t))

  abbrev as_changed : Primitive → ℕ → Option (List Val) → Out
  as_changed p t o = closed (resume m.levels m.context (name_changed (meaning m.room) m.context p name o vs (at m w) t))

  pub place_is_set : (place all : List Val) → Some place ≡ place_denoted (at m w) name → all ≡ place ++ vs
      → Turns (inside m setting) w s (Ok (Act (Set SlotValue) all)) m w s
  place_is_set place all e k =
      turns_of_leads (inside m setting) w s (Ok (Act (Set SlotValue) all)) m
      (λ t. ap (λ us. inside m (place_set (meaning m.room) m.context slot_access us) w t) k ∙ ap (as_set t) e)

  pub variable_is_set : (r : Result Doing Stop) (n : Machine) (w' : State) (s' : ℕ) → None ≡ place_denoted (at m w) name
      → Turns (inside m (stored_only name (only_value vs))) w s r n w' s' → Turns (inside m setting) w s r n w' s'
  variable_is_set r n w' s' e = turns_same (inside m (stored_only name (only_value vs))) (inside m setting) w s r n w' s' (λ t. ap (as_set t) e)

  pub place_is_changed : (p : Primitive) (place all : List Val) → Some place ≡ place_denoted (at m w) name → all ≡ place ++ vs
      → Turns (inside m (changing p)) w s (Ok (Act (ChangePlace p SlotValue) all)) m w s
  place_is_changed p place all e k =
      turns_of_leads (inside m (changing p)) w s (Ok (Act (ChangePlace p SlotValue) all)) m
      (λ t. ap (λ us. inside m (changed_place (meaning m.room) m.context p slot_access (last_first us)) w t) k ∙ ap (as_changed p t) e)

  pub variable_is_changed : (p : Primitive) (r : Result Doing Stop) (n : Machine) (w' : State) (s' : ℕ) → None ≡ place_denoted (at m w) name → Turns (inside m (changed_only p name (only_value vs))) w s r n w' s'
      → Turns (inside m (changing p)) w s r n w' s'
  variable_is_changed p r n w' s' e = turns_same (inside m (changed_only p name (only_value vs))) (inside m (changing p)) w s r n w' s' (λ t. ap (as_changed p t) e)
