-- What a class has, combined from what is found of its slots.
use Rattle.std.proofs.Common.{◌≡◌, List, [], ◌∷◌, ◌++◌, Option, Some, map, length, ◌<◌, arith, refl, ap, sym, ◌∙◌}
use Rattle.std.specs.List.{flat_map}
use Rattle.std.specs.Prelude.{ℕ, reverse}
use Rattle.std.proofs.lemmas.List.{map-append}
use Rattle.lisp_data.specs.Name.{Name}
use Rattle.lisp_data.specs.declared.ids.ClassId.{ClassId}
use Rattle.clos_forms.specs.Form.{Form}
use Rattle.clos_precedence.specs.PrecedenceView.{latest_first, numbers}
use Rattle.clos_precedence.proofs.Lists.{latest}
use Rattle.clos_class.specs.declared.direct.SlotAllocation.{SlotAllocation}
use Rattle.clos_class.specs.inner.Building.{no_slots, slot_by, with_names, with_slots}
use Rattle.clos_class.specs.inner.Keeping.{effective_if}
use Rattle.clos_class.specs.Slots.{Defaults, DirectSlots, Effective, accessible, allocation, default_initargs, effective_of, effective_slots, initargs, initform, layout_of, names}
use Rattle.clos_class.proofs.Added.{all_names as all_added, more_names}
use Rattle.clos_class.proofs.Built.{all_names, are_built, layout_by}
use Rattle.clos_class.proofs.Placed.{distinct_again}

-- ---- the accessible slots

pub all_accessible : (of : DirectSlots) (cs : List ClassId) → with_names [] (all_names of cs) ≡ accessible of (numbers cs)
all_accessible of cs = all_added (all_names of cs)

-- those of one class more
pub next_class : (of : DirectSlots) (found more : List Name) (cs : List ClassId) (c : ClassId) → more ≡ with_names found (names (of c.0))
    → with_names more (all_names of cs) ≡ with_names found (all_names of (cs ++ c ∷ []))
next_class of found more cs c e =
    more_names found more (names (of c.0)) (all_names of cs) e
    ∙ ap (with_names found) (sym (ap (λ xs. names (flat_map of xs)) (latest cs c) ∙ map-append (λ s. s.name) (of c.0) (flat_map of (latest_first cs))))

-- ---- the layout and the slots

layout_built : (of : DirectSlots) (l : List ℕ) (f : Name → Option SlotAllocation) (ns : List Name) → ((n : Name) → f n ≡ allocation of l n) → ns ≡ accessible of l → with_slots f no_slots ns ≡ layout_of of l
layout_built of l f ns e h =
    ap (λ g. with_slots g no_slots ns) (λ i n. e n i)
    ∙ ap (with_slots (allocation of l) no_slots) h
    ∙ are_built (allocation of l) (accessible of l)
    ∙ ap (layout_by (allocation of l)) (distinct_again (names (flat_map of (reverse l))))

slots_built : (of : DirectSlots) (l : List ℕ) (f : Name → Option SlotAllocation) (g : Name → List Name) (h : Name → Option Form) (ns : List Name)
    → ((n : Name) → f n ≡ allocation of l n) → ((n : Name) → g n ≡ initargs of l n) → ((n : Name) → h n ≡ initform of l n) → ns ≡ accessible of l → map (slot_by f g h) ns ≡ effective_slots of l
slots_built of l f g h ns e a o p = λ i. map (slot_by (λ n. e n i) (λ n. a n i) (λ n. o n i)) (p i)

pub own_names : (f : Name → Option SlotAllocation) (g : Name → List Name) (h : Name → Option Form) (ns : List Name) → ns ≡ map (λ s. s.name) (map (slot_by f g h) ns)
own_names f g h [] = refl
own_names f g h (n ∷ ns) = ap (λ l. n ∷ l) (own_names f g h ns)

some_effective : (of : DirectSlots) (given : Defaults) (cs : List ClassId) → 0 < length cs → Some (effective_of of given (numbers cs)) ≡ effective_if of given (numbers cs)
some_effective of given [] h = absurd (omega (arith, h))
some_effective of given (c ∷ cs) h = refl

-- all that a class has
pub is_effective : (of : DirectSlots) (given : Defaults) (cs : List ClassId) (f : Name → Option SlotAllocation) (g : Name → List Name) (h : Name → Option Form) (ns : List Name) (e : Effective)
    → ((n : Name) → f n ≡ allocation of (numbers cs) n) → ((n : Name) → g n ≡ initargs of (numbers cs) n) → ((n : Name) → h n ≡ initform of (numbers cs) n) → ns ≡ accessible of (numbers cs)
    → e.layout ≡ with_slots f no_slots ns → e.slots ≡ map (slot_by f g h) ns → e.defaults ≡ default_initargs given (numbers cs) → 0 < length cs → Some e ≡ effective_if of given (numbers cs)
is_effective of given cs f g h ns e ef eg eh en y s d b =
    let p : e.layout ≡ layout_of of (numbers cs) = y ∙ layout_built of (numbers cs) f ns ef en in
    let q : e.slots ≡ effective_slots of (numbers cs) = s ∙ slots_built of (numbers cs) f g h ns ef eg eh en in
    (λ i. Some (record { layout = p i; slots = q i; defaults = d i })) ∙ some_effective of given cs b
