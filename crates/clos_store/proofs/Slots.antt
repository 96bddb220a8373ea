-- Names and values side by side.
use Rattle.std.proofs.Common.{◌≡◌, ℕ, zero, suc, ◌+◌, ◌<◌, ◌≤◌, List, [], ◌∷◌, Option, Some, None, Bool, true, false, length, map, replicate, arith, refl, ap, sym, ◌∙◌, true≢false, subst}
use Rattle.std.specs.Prelude.{slice_get, slice_set, slice_index_or, position, if◌then◌else◌, unwrap_or, is_some, nat_lt, not, ◌==◌, ◌-◌}
use Rattle.std.specs.Option.{option_map_or}
use Rattle.std.specs.Map.{lookup}
use Rattle.std.specs.List.{zip, position_or_len}
use Rattle.std.proofs.lemmas.List.{length-replicate}
use Rattle.std.proofs.lemmas.Option.{slice_get_read, slice_get_past}
use Rattle.std.proofs.lemmas.Bool.{ltb-false}
use Rattle.lisp_data.specs.Name.{Name, same_name}
use Rattle.lisp_data.specs.Value.{Val}
use Rattle.clos_store.specs.Store.{Slots, Object, Contents, Held, slot_names, if_bound, value_at, value_named, with_value, with_value_at, with_changed, with_slots, slots_of, place_named}

pub length_of_unbound : {A : Type 0} (n : ℕ) (x : A) → length (replicate n x) ≡ n
length_of_unbound n x = length-replicate n x

pub all_unbound : (names : List Name) (n : ℕ) → n ≡ length names → zip names (replicate n None) ≡ map {B = Name × Option Val} (λ name. (name, None)) names
all_unbound [] n e = refl
all_unbound (name ∷ names) zero e = absurd (omega (arith, e))
all_unbound (name ∷ names) (suc n) e = ap (λ l. (name, None) ∷ l) (all_unbound names n (omega (arith, e)))

pub names_of_zip : (names : List Name) (values : List (Option Val)) → length values ≡ length names → slot_names (zip names values) ≡ names
names_of_zip [] values e = refl
names_of_zip (name ∷ names) [] e = absurd (omega (arith, e))
names_of_zip (name ∷ names) (v ∷ values) e = ap (λ l. name ∷ l) (names_of_zip names values (omega (arith, e)))

pub length_of_zip : (names : List Name) (values : List (Option Val)) → length values ≡ length names → length (zip names values) ≡ length values
length_of_zip [] values e = sym e
length_of_zip (name ∷ names) [] e = absurd (omega (arith, e))
length_of_zip (name ∷ names) (v ∷ values) e = ap suc (length_of_zip names values (omega (arith, e)))

value_of_zip : (names : List Name) (values : List (Option Val)) (i : ℕ) → length values ≡ length names → value_at (zip names values) i ≡ if_bound (slice_get values i)
value_of_zip [] [] i e = refl
value_of_zip [] (v ∷ values) i e = absurd (omega (arith, e))
value_of_zip (name ∷ names) [] i e = absurd (omega (arith, e))
value_of_zip (name ∷ names) (v ∷ values) zero e = refl
value_of_zip (name ∷ names) (v ∷ values) (suc i) e = value_of_zip names values i (omega (arith, e))

pub read_of_zip : (names : List Name) (values : List (Option Val)) (i : ℕ) (v : Option Val) → length values ≡ length names → i < length values → v ≡ slice_index_or values i v → v ≡ value_at (zip names values) i
read_of_zip names values i v e p h = sym (value_of_zip names values i e ∙ ap if_bound (slice_get_read values (length values) i v refl p h))

pub zip_with_value : (names : List Name) (values : List (Option Val)) (i : ℕ) (value : Option Val) → zip names (slice_set values i value) ≡ with_value_at i value (zip names values)
zip_with_value [] values i value = refl
zip_with_value (name ∷ names) [] i value = refl
zip_with_value (name ∷ names) (v ∷ values) zero value = refl
zip_with_value (name ∷ names) (v ∷ values) (suc i) value = ap (λ l. (name, v) ∷ l) (zip_with_value names values i value)

-- ---- slots by their names

next : (n : ℕ) → 1 + n ≡ suc n
next n = omega arith

value_there : (ss : Slots) (name : Name) → value_at ss (position_or_len (same_name name) (slot_names ss)) ≡ value_named ss name
value_there [] name = refl
value_there (s ∷ ss) name =
    elim (same_name name s.0)
    as (λ b. value_at (s ∷ ss) (if not b then 1 + position_or_len (same_name name) (slot_names ss) else 0) ≡ if_bound (if b then Some s.1 else lookup (same_name name) ss))
    [ true ↦ refl | false ↦ ap (value_at (s ∷ ss)) (next (position_or_len (same_name name) (slot_names ss))) ∙ value_there ss name ]

with_value_there : (ss : Slots) (name : Name) (value : Option Val) → with_value_at (position_or_len (same_name name) (slot_names ss)) value ss ≡ with_value name value ss
with_value_there [] name value = refl
with_value_there (s ∷ ss) name value =
    elim (same_name name s.0)
    as (λ b. with_value_at (if not b then 1 + position_or_len (same_name name) (slot_names ss) else 0) value (s ∷ ss) ≡ (if b then (s.0, value) ∷ ss else s ∷ with_value name value ss)) [
      | true ↦ refl
      | false ↦ ap (λ k. with_value_at k value (s ∷ ss)) (next (position_or_len (same_name name) (slot_names ss))) ∙ ap (λ l. s ∷ l) (with_value_there ss name value)
    ]

place_is : (b : Bool) (m i : ℕ) → (if b then Some m else None) ≡ Some i → m ≡ i
place_is true m i e = ap (λ o. unwrap_or o m) e
place_is false m i e = absurd (true≢false (sym (ap is_some e)))

abbrev place : Slots → Name → Option ℕ
place ss name = position (same_name name) (slot_names ss)

place_there : (ss : Slots) (name : Name) (i : ℕ) → place ss name ≡ Some i → position_or_len (same_name name) (slot_names ss) ≡ i
place_there ss name i e = place_is (nat_lt (position_or_len (same_name name) (slot_names ss)) (length (slot_names ss))) (position_or_len (same_name name) (slot_names ss)) i e

pub value_placed : (ss : Slots) (name : Name) (i : ℕ) → place ss name ≡ Some i → value_at ss i ≡ value_named ss name
value_placed ss name i e = ap (value_at ss) (sym (place_there ss name i e)) ∙ value_there ss name

with_value_placed : (ss : Slots) (name : Name) (i : ℕ) (value : Option Val) → place ss name ≡ Some i → with_value_at i value ss ≡ with_value name value ss
with_value_placed ss name i value e = ap (λ k. with_value_at k value ss) (sym (place_there ss name i e)) ∙ with_value_there ss name value

-- the slot of this name is the one at its place
found_there : (names : List Name) (values : List (Option Val)) (name : Name) → length values ≡ length names
    → slice_get values (position_or_len (same_name name) names) ≡ lookup (same_name name) (zip names values)
found_there [] [] name e = refl
found_there [] (v ∷ values) name e = absurd (omega (arith, e))
found_there (n ∷ names) [] name e = absurd (omega (arith, e))
found_there (n ∷ names) (v ∷ values) name e =
    elim (same_name name n)
    as (λ b. slice_get (v ∷ values) (if not b then 1 + position_or_len (same_name name) names else 0) ≡ (if b then Some v else lookup (same_name name) (zip names values))) [
      | true ↦ refl
      | false ↦ ap (slice_get (v ∷ values)) (next (position_or_len (same_name name) names)) ∙ found_there names values name (omega (arith, e))
    ]

place_past : (m l : ℕ) → None ≡ (if nat_lt m l then Some m else None) → l ≤ m
place_past m l e = by (nat_lt m l) refl e
  where
    by : (b : Bool) → nat_lt m l ≡ b → None ≡ (if b then Some m else None) → l ≤ m
    by true k e = absurd (true≢false (sym (ap is_some e)))
    by false k e = ltb-false m l k

pub no_slot_there : (names : List Name) (values : List (Option Val)) (name : Name) → length values ≡ length names → None ≡ position (same_name name) names
    → None ≡ lookup (same_name name) (zip names values)
no_slot_there names values name e h =
    sym (slice_get_past values (position_or_len (same_name name) names) (subst (λ l. l ≤ position_or_len (same_name name) names) (sym e) (place_past (position_or_len (same_name name) names) (length names) h)))
    ∙ found_there names values name e

pub slot_there : (names : List Name) (values : List (Option Val)) (name : Name) (i : ℕ) → length values ≡ length names → Some i ≡ position (same_name name) names
    → slice_get values i ≡ lookup (same_name name) (zip names values)
slot_there names values name i e h =
    ap (slice_get values) (sym (place_is (nat_lt (position_or_len (same_name name) names) (length names)) (position_or_len (same_name name) names) i (sym h)))
    ∙ found_there names values name e

-- ---- one of the instances

abbrev slots_in : Option Object → Slots
slots_in o = option_map_or (λ o. o.slots) o []

-- the slots of the instance that stands at this place
pub slots_there : (w v : Contents) (i p : ℕ) (o : Object) → w ≡ v → p < length (slots_of v i) → o ≡ slice_index_or w.instances (i - 1) o → slots_of v i ≡ o.slots
slots_there w v i p o is h e =
    sym (ap (λ u. slots_of u i) is) ∙ (elim (i == 0)
    as (λ b. p < length (slots_in (if b then None else slice_get w.instances (i - 1))) → slots_in (if b then None else slice_get w.instances (i - 1)) ≡ o.slots)
    [ true ↦ λ h. absurd (omega (arith, h)) | false ↦ λ h. found w.instances (i - 1) p o h e ]) (subst (λ u. p < length (slots_of u i)) (sym is) h)
  where
    found : (os : List Object) (n p : ℕ) (o : Object) → p < length (slots_in (slice_get os n)) → o ≡ slice_index_or os n o → slots_in (slice_get os n) ≡ o.slots
    found [] n p o h e = absurd (omega (arith, h))
    found (x ∷ os) zero p o h e = ap (λ y. y.slots) (sym e)
    found (x ∷ os) (suc n) p o h e = found os n p o h e

pub changed_there : (os : List Object) (n : ℕ) (o p : Object) (change : Object → Object) → o ≡ slice_index_or os n o → p ≡ change o → slice_set os n p ≡ with_changed change n os
changed_there [] n o p change e h = refl
changed_there (x ∷ os) zero o p change e h = ap (λ y. y ∷ os) (h ∙ ap change e)
changed_there (x ∷ os) (suc n) o p change e h = ap (λ l. x ∷ l) (changed_there os n o p change e h)

-- the slots of one instance changed
pub slots_changed : (w v : Held) (i : ℕ) (o p : Object) (change : Slots → Slots) → w ≡ v → o ≡ slice_index_or w.contents.instances (i - 1) o → p ≡ record o { slots = change o.slots }
    → record w { contents = record w.contents { instances = slice_set w.contents.instances (i - 1) p } } ≡ record v { contents = with_slots change i v.contents }
slots_changed w v i o p change is e h =
    ap (λ os. record w { contents = record w.contents { instances = os } }) (changed_there w.contents.instances (i - 1) o p (λ o. record o { slots = change o.slots }) e h)
    ∙ ap (λ (u : Held). record u { contents = with_slots change i u.contents }) is

changed_alike : (os : List Object) (n : ℕ) (name : Name) (i : ℕ) (value : Option Val) → place (slots_in (slice_get os n)) name ≡ Some i
    → with_changed (λ o. record o { slots = with_value_at i value o.slots }) n os ≡ with_changed (λ o. record o { slots = with_value name value o.slots }) n os
changed_alike [] n name i value e = refl
changed_alike (o ∷ os) zero name i value e = ap (λ ss. record o { slots = ss } ∷ os) (with_value_placed o.slots name i value e)
changed_alike (o ∷ os) (suc n) name i value e = ap (λ l. o ∷ l) (changed_alike os n name i value e)

-- a slot changed at its place is that of its name
placed : (w : Contents) (i : ℕ) (name : Name) (p : ℕ) (value : Option Val) → place_named w i name ≡ Some p → with_slots (with_value_at p value) i w ≡ with_slots (with_value name value) i w
placed w i name p value e =
    (elim (i == 0)
    as (λ b. place (slots_in (if b then None else slice_get w.instances (i - 1))) name ≡ Some p → with_slots (with_value_at p value) i w ≡ with_slots (with_value name value) i w) [
      | true ↦ λ h. absurd (true≢false (sym (ap is_some h)))
      | false ↦ λ h. ap (λ os. record w { instances = os }) (changed_alike w.instances (i - 1) name p value h)
    ]) e

pub slots_placed : (h : Held) (i : ℕ) (name : Name) (p : ℕ) (value : Option Val) → place_named h.contents i name ≡ Some p
    → record h { contents = with_slots (with_value_at p value) i h.contents } ≡ record h { contents = with_slots (with_value name value) i h.contents }
slots_placed h i name p value e = ap (λ w. record h { contents = w }) (placed h.contents i name p value e)
