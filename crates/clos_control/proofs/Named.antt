-- Names that are read: they stand for slots, or are variables without a value.
use Rattle.std.proofs.Common.{◌≡◌, ℕ, List, [], ◌∷◌, Option, Some, None, Ok, Err, ap, sym, ◌∙◌}
use Rattle.lisp_data.specs.Name.{Name}
use Rattle.lisp_data.specs.Value.{Val}
use Rattle.clos_forms.specs.Quotation.{name_value}
use Rattle.clos_machine.specs.clos_world.World.{State, unbound}
use Rattle.clos_machine.specs.clos_world.declared.condition.Condition.{Condition}
use Rattle.clos_machine.specs.clos_world.declared.condition.ConditionKind.TheVariants.{UnboundVariable}
use Rattle.clos_machine.specs.clos_world.declared.condition.Stop.TheVariants.{Refused}
use Rattle.clos_machine.specs.Machine.{Leads, at, inside, resume}
use Rattle.clos_machine.specs.clos_meaning.Meaning.{closed, meaning}
use Rattle.clos_machine.specs.clos_meaning.Outcome.{Out, Run, Stopped}
use Rattle.clos_machine.specs.clos_meaning.SlotNames.{name_read, place_denoted}
use Rattle.clos_machine.specs.clos_meaning.Variables.{found_value, variable_value}
use Rattle.clos_machine.specs.declared.machine.Action.TheVariants.{Read}
use Rattle.clos_machine.specs.declared.machine.Doing.TheVariants.{Act}
use Rattle.clos_machine.specs.declared.machine.Machine.{Machine}
use Rattle.clos_machine.specs.declared.machine.Target.TheVariants.{SlotValue}
use Rattle.clos_machine.proofs.Turns.{stopped_through}

-- a name is read
abbrev pub reading : Machine → Name → Run
reading m name w s = name_read (meaning m.room) m.context name (place_denoted w name) w s

-- the same, where it stands for this
abbrev as_read : Machine → Name → State → ℕ → Option (List Val) → Out
as_read m name w t o = closed (resume m.levels m.context (name_read (meaning m.room) m.context name o (at m w) t))

pub place_is_read : (m : Machine) (name : Name) (place : List Val) (w : State) → Some place ≡ place_denoted (at m w) name
    → Leads (inside m (reading m name)) w (Ok (Act (Read SlotValue) place)) m
place_is_read m name place w e = λ t. ap (as_read m name w t) e

pub unbound_is_read : (m : Machine) (name : Name) (c : Condition) (w : State) → None ≡ place_denoted (at m w) name → None ≡ found_value (at m w) name
    → c ≡ record { kind = UnboundVariable; items = name_value name ∷ [] } → Leads (inside m (reading m name)) w (Err (Refused c)) m
unbound_is_read m name c w e v k = λ t.
    sym (ap (as_read m name w t) e) ∙ sym (ap (λ o. closed (resume m.levels m.context (variable_value name o (at m w) t))) v)
    ∙ stopped_through m.levels m.context (record { kind = UnboundVariable; items = name_value name ∷ [] }) (at m w) t ∙ ap (λ d. Stopped d (unbound w) t) (sym k)
