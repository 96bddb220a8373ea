-- Instances that are given another layout: after their class was defined again (HyperSpec 4.3.6), or as they change it (7.2).
use Rattle.std.specs.Prelude.{ℕ, ◌-◌, Bool, false, not, ◌||◌, is_some, List, [], ◌∷◌, ◌++◌, Option, Some, None, map, option_map}
use Rattle.std.specs.List.{filter, filter_map, list_any}
use Rattle.std.specs.Map.{lookup}
use Rattle.std.specs.Option.{option_map_or}
use Rattle.lisp_data.specs.Name.{Name, same_name}
use Rattle.lisp_data.specs.Value.{Val}
use Rattle.clos_class.specs.Slots.{Layout, same_layout}
use Rattle.clos_store.specs.Store.{Contents, Object, Slots, cell_among, found_or, if_bound, instance, kept_layout, with_changed}

-- An instance is stale where the layout that it keeps is not this one, that of its class now (4.3.6).
abbrev pub is_stale : Contents → ℕ → Layout → Bool
is_stale w i l = option_map_or (λ o. not (same_layout (kept_layout o) l)) (instance w i) false

-- ---- its slots (4.3.6.1, 7.2.1)

-- the slot of this name, a local one or the contents of a cell as they are now
abbrev pub slot_of : List (Option Val) → Object → Name → Option (Option Val)
slot_of cells o name = found_or (lookup (same_name name) o.slots) (cell_among cells (lookup (same_name name) o.shared))

-- A slot that was there keeps its value, or has that of its cell; another is unbound.
abbrev pub updated_slots : List (Option Val) → Object → List Name → Slots
updated_slots cells o names = map (λ name. (name, if_bound (slot_of cells o name))) names

-- of this class, with this layout
abbrev pub updated : List (Option Val) → ℕ → Layout → Object → Object
updated cells class l o = record { class = class; slots = updated_slots cells o l.locals; shared = l.shared }

-- ---- what is told of it

abbrev pub has_slot : Object → Name → Bool
has_slot o name = is_some (lookup (same_name name) o.slots) || is_some (lookup (same_name name) o.shared)

-- the local slots that are new
abbrev pub added : Object → List Name → List Name
added o names = filter (λ name. not (has_slot o name)) names

abbrev pub is_among : List Name → Name → Bool
is_among names name = list_any (same_name name) names

-- the local slots that are local no more
abbrev pub lost : List Name → Slots → Slots
lost names ss = filter (λ s. not (is_among names s.0)) ss

abbrev pub with_value_of : Name → Option Val → Option (Name × Val)
with_value_of name value = option_map (λ v. (name, v)) value

-- those of slots that have values, with them
abbrev pub bound : Slots → List (Name × Val)
bound ss = filter_map (λ s. with_value_of s.0 s.1) ss

-- ---- the state after it

-- An instance whose class was defined again has its layout now.
abbrev pub with_update : ℕ → Layout → Contents → Contents
with_update i l w = record w { instances = with_changed (λ o. updated w.cells o.class l o) (i - 1) w.instances }

-- the instance of this number, if there is one
abbrev pub alone : Option Object → List Object
alone None = []
alone (Some o) = o ∷ []

-- An instance that changes its class (7.2): a copy of it as it was comes last.
abbrev pub with_change : ℕ → ℕ → Layout → Contents → Contents
with_change i class l w = record w { instances = with_changed (updated w.cells class l) (i - 1) w.instances ++ alone (instance w i) }
