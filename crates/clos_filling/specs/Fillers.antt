-- Slots that are filled one after another.
use Rattle.std.specs.Prelude.{◌≡◌, ℕ, drop, Bool, true, false, List, [], ◌∷◌, Option, Some, None, if◌then◌else◌}
use Rattle.lisp_data.specs.Value.{Val, instance}
use Rattle.lisp_data.specs.ValueView.{value_of}
use Rattle.clos_class.specs.declared.effective_slots.EffectiveSlot.{EffectiveSlot}
use Rattle.clos_forms.specs.Form.{Form}
use Rattle.clos_machine.specs.clos_world.World.{State}
use Rattle.clos_machine.specs.clos_meaning.Contexts.{Context}
use Rattle.clos_machine.specs.clos_meaning.Filling.{Filler, Subject, fill, filled, filler, nothing, value, initform}
use Rattle.clos_machine.specs.clos_meaning.Outcome.{Gave, Run, Eval}
use Rattle.clos_filling.specs.declared.filling.Found.{Found}
use Rattle.clos_filling.specs.declared.filling.Found.TheVariants as found

-- such a slot is passed over
abbrev pub is_nothing : Filler → Bool
is_nothing nothing = true
is_nothing (value v) = false
is_nothing (initform f) = false

-- an initform, where there is one
abbrev pub filler_of_form : Option Form → Filler
filler_of_form None = nothing
filler_of_form (Some f) = initform f

-- from the first on that is filled with something
abbrev pub pending : State → Subject → List EffectiveSlot → List EffectiveSlot
pending w f [] = []
pending w f (slot ∷ slots) = if is_nothing (filler w f slot) then pending w f slots else slot ∷ slots

-- what the code found for a slot, as the definitions have it
abbrev pub filler_in : Found → Filler
filler_in (found.Value v) = value (value_of v)
filler_in (found.Initform f) = initform f

-- the same, and nothing where nothing was found
abbrev pub filler_found : Option Found → Filler
filler_found None = nothing
filler_found (Some x) = filler_in x

-- the first of these slots is filled with this
abbrev pub Fills : State → Subject → List EffectiveSlot → Found → Type 0
Fills w f [] x = ⊥
Fills w f (slot ∷ slots) x = filler w f slot ≡ filler_in x

-- the place of the next slot that is filled with something, and with what
abbrev pub Finds : State → Subject → List EffectiveSlot → List EffectiveSlot → Option (ℕ × Found) → Type 0
Finds w f all slots None = pending w f slots ≡ []
Finds w f all slots (Some p) = (pending w f slots ≡ drop p.0 all) × Fills w f (drop p.0 all) p.1

-- the first of these slots has this value, then the rest
abbrev pub first_filled : Eval → Context → Subject → List EffectiveSlot → Val → Run
first_filled ev env f [] v w s = Gave (instance f.instance) w s
first_filled ev env f (slot ∷ slots) v w s = filled f slot (λ u k. fill ev env f slots u k) v w s
