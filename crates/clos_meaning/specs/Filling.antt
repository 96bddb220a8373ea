-- The system's method of shared-initialize (HyperSpec 7.1.4): the slots of an instance are filled in layout order.
use Rattle.std.specs.Prelude.{ℕ, ◌==◌, codes, Bool, true, false, ◌&&◌, ◌||◌, List, [], ◌∷◌, Option, Some, None, if◌then◌else◌}
use Rattle.std.specs.List.{list_any}
use Rattle.lisp_data.specs.Name.{Name}
use Rattle.lisp_data.specs.Value.{Val, Vals, instance, list, nil, cons}
use Rattle.lisp_data.specs.declared.ids.CellId.{CellId}
use Rattle.lisp_prims.specs.Predicates.{is_symbol}
use Rattle.clos_forms.specs.Form.{Form}
use Rattle.clos_world.specs.clos_class.declared.effective_slots.EffectiveSlot.{EffectiveSlot}
use Rattle.clos_world.specs.clos_store.Store.{slot_found}
use Rattle.clos_world.specs.World.{State, class_of_instance}
use Rattle.clos_meaning.specs.Contexts.{Context}
use Rattle.clos_meaning.specs.Outcome.{Gave, Run, Eval, then_do, step_then}
use Rattle.clos_meaning.specs.Parameters.{argument_by, is_symbol_named}
use Rattle.clos_meaning.specs.Slots.{slot_stored}

-- an instance, its class, the names of the slots that may take their initforms, and the initargs
pub record Subject : Type 0 where
  pub instance : ℕ
  pub class : ℕ
  pub names : Val
  pub initargs : List Val

-- ---- the names of slots: T for all, or a list of symbols

abbrev pub is_symbol_t : Val → Bool
is_symbol_t v = is_symbol_named (record { text = codes "T"; keyword = false }) v

abbrev pub are_symbols : Vals → Bool
are_symbols nil = true
are_symbols (cons v vs) = is_symbol v && are_symbols vs

abbrev pub is_list_of_symbols : Val → Bool
is_list_of_symbols (list vs) = are_symbols vs
is_list_of_symbols v = false

abbrev pub are_slot_names : Val → Bool
are_slot_names v = is_symbol_t v || is_list_of_symbols v

abbrev pub is_listed : Name → Vals → Bool
is_listed name nil = false
is_listed name (cons v vs) = is_symbol_named name v || is_listed name vs

abbrev pub is_in_list : Name → Val → Bool
is_in_list name (list vs) = is_listed name vs
is_in_list name v = false

-- whether the slot of this name is among them
abbrev pub is_named : Val → Name → Bool
is_named names name = is_symbol_t names || is_in_list name names

-- ---- the slots

-- what a slot is filled with
pub data Filler : Type 0 where
  nothing : Filler
  value : Val → Filler
  initform : Form → Filler

-- the leftmost initarg that names the slot
abbrev pub initarg_for : EffectiveSlot → List Val → Option Val
initarg_for slot vs = argument_by (λ v. list_any (λ n. is_symbol_named n v) slot.initargs) vs

abbrev pub form_filler : Option Form → Filler
form_filler None = nothing
form_filler (Some f) = initform f

-- a local slot that is named and unbound takes its initform, if there is one; a shared one takes none
abbrev pub unbound_filler : Bool → Option CellId → Option (Option Val) → Option Form → Filler
unbound_filler true None (Some None) o = form_filler o
unbound_filler true None (Some (Some v)) o = nothing
unbound_filler true None None o = nothing
unbound_filler true (Some cell) found o = nothing
unbound_filler false cell found o = nothing

abbrev pub filler_by : Option Val → Filler → Filler
filler_by None other = other
filler_by (Some v) other = value v

abbrev pub filler : State → Subject → EffectiveSlot → Filler
filler w f slot =
    filler_by (initarg_for slot f.initargs) (unbound_filler (is_named f.names slot.name) slot.cell (slot_found w.store f.instance slot.name) slot.initform)

-- the slot has this value, in one step; then the rest
abbrev pub filled : Subject → EffectiveSlot → Run → Val → Run
filled f slot rest v w s = then_do (step_then (slot_stored f.instance slot.name (Some v) v) w s) (λ x u k. rest u k)

abbrev pub is_the_class : ℕ → Option ℕ → Bool
is_the_class c None = false
is_the_class c (Some n) = n == c

-- The same with the value of an initform. Where the instance is of another class by then, nothing more is filled.
abbrev pub filled_with : Subject → EffectiveSlot → Run → Val → Run
filled_with f slot rest v w s =
    if is_the_class f.class (class_of_instance w f.instance) then filled f slot rest v w s else Gave (instance f.instance) w s

abbrev pub filled_by : Eval → Context → Subject → EffectiveSlot → Run → Filler → Run
filled_by ev env f slot rest nothing w s = rest w s
filled_by ev env f slot rest (value v) w s = filled f slot rest v w s
filled_by ev env f slot rest (initform g) w s = then_do (ev env g w s) (λ v. filled_with f slot rest v)

-- these slots; the instance is given
abbrev pub fill : Eval → Context → Subject → List EffectiveSlot → Run
fill ev env f [] w s = Gave (instance f.instance) w s
fill ev env f (slot ∷ slots) w s = filled_by ev env f slot (λ u k. fill ev env f slots u k) (filler w f slot) w s
