-- Layouts built one slot after another.
use Rattle.std.proofs.Common.{◌≡◌, Bool, true, false, ◌||◌, true≢false, List, [], ◌∷◌, ◌++◌, Option, Some, None, refl, ap, sym, ◌∙◌}
use Rattle.std.specs.Prelude.{cond, is_some, if◌then◌else◌}
use Rattle.std.specs.List.{filter, filter_map, flat_map, list_any, cons_option}
use Rattle.std.specs.Map.{keys_of, lookup}
use Rattle.std.proofs.lemmas.List.{map-append}
use Rattle.std.proofs.lemmas.Map.Made.{is_some-lookup}
use Rattle.indexmap.specs.IndexMap.{insert_entry}
use Rattle.lisp_data.specs.Name.{Name, same_name}
use Rattle.lisp_data.specs.declared.ids.CellId.{CellId}
use Rattle.lisp_data.specs.declared.ids.ClassId.{ClassId}
use Rattle.clos_precedence.specs.PrecedenceView.{latest_first}
use Rattle.clos_class.specs.declared.direct.SlotAllocation.{SlotAllocation}
use Rattle.clos_class.specs.declared.direct.SlotAllocation.TheVariants.{Local, Shared}
use Rattle.clos_class.specs.Slots.{DirectSlots, Layout, distinct, first_of_each, is_local, names, shared_in}
use Rattle.clos_class.specs.inner.Building.{new_of, no_slots, with_cell, with_slot, with_slots}
use Rattle.clos_class.proofs.Each.{added, each, filter_all, none_after}

-- ---- one slot

absent_by : (e : Name × CellId) (es : List (Name × CellId)) (n : Name) (c : CellId) → (list_any (same_name n) (keys_of es) ≡ false → insert_entry same_name es n c ≡ es ++ (n, c) ∷ [])
    → (b : Bool) → same_name n e.0 ≡ b → (b || list_any (same_name n) (keys_of es)) ≡ false
    → (if b then (e.0, c) ∷ es else e ∷ insert_entry same_name es n c) ≡ (e ∷ es) ++ (n, c) ∷ []
absent_by e es n c f true s h = absurd (true≢false h)
absent_by e es n c f false s h = ap (λ l. e ∷ l) (f h)

absent : (es : List (Name × CellId)) (n : Name) (c : CellId) → list_any (same_name n) (keys_of es) ≡ false → insert_entry same_name es n c ≡ es ++ (n, c) ∷ []
absent [] n c h = refl
absent (e ∷ es) n c h = absent_by e es n c (absent es n c) (same_name n e.0) refl h

pub new_cell : (es : List (Name × CellId)) (n : Name) (c : CellId) (b : Bool) → b ≡ is_some (lookup (same_name n) es) → b ≡ false → insert_entry same_name es n c ≡ with_cell es n c
new_cell es n c b e h =
    let k : list_any (same_name n) (keys_of es) ≡ false = sym (is_some-lookup (same_name n) es) ∙ sym e ∙ h in
    absent es n c k ∙ sym (ap (λ a. if a then es else es ++ (n, c) ∷ []) k)

pub same_cells : (es : List (Name × CellId)) (n : Name) (c : CellId) (b : Bool) → b ≡ is_some (lookup (same_name n) es) → b ≡ true → es ≡ with_cell es n c
same_cells es n c b e h = sym (ap (λ a. if a then es else es ++ (n, c) ∷ []) (sym (is_some-lookup (same_name n) es) ∙ sym e ∙ h))

-- ---- all slots

-- of these slots the local ones, and the shared ones with their cells
abbrev pub layout_by : (Name → Option SlotAllocation) → List Name → Layout
layout_by of ns = record { locals = filter (λ n. is_local (of n)) ns; shared = filter_map (λ n. shared_in n (of n)) ns }

abbrev local_if : Name → Bool → Option Name
local_if n true = Some n
local_if n false = None

abbrev local_in : Name → Option SlotAllocation → Option Name
local_in n o = local_if n (is_local o)

module _ (of : Name → Option SlotAllocation) where
  locals_step : (ns : List Name) → ((l : Layout) → (with_slots of l ns).locals ≡ l.locals ++ new_of (λ n. n) l.locals (distinct (filter_map (λ n. local_in n (of n)) ns)))
      → (l : Layout) (n : Name) (o : Option SlotAllocation)
      → (with_slots of (with_slot l n o) ns).locals ≡ l.locals ++ new_of (λ m. m) l.locals (distinct (cons_option (local_in n o) (filter_map (λ m. local_in m (of m)) ns)))
  locals_step ns f l n None = f l
  locals_step ns f l n (Some (Shared c)) = f (with_slot l n (Some (Shared c)))
  locals_step ns f l n (Some Local) =
      f (with_slot l n (Some Local)) ∙ added (λ m. m) l.locals l.locals n (filter_map (λ m. local_in m (of m)) ns) (list_any (same_name n) l.locals) refl

  locals_built : (ns : List Name) (l : Layout) → (with_slots of l ns).locals ≡ l.locals ++ new_of (λ n. n) l.locals (distinct (filter_map (λ n. local_in n (of n)) ns))
  locals_built [] l = none_after l.locals
  locals_built (n ∷ ns) l = locals_step ns (locals_built ns) l n (of n)

  keys_with : (es : List (Name × CellId)) (n : Name) (c : CellId) (b : Bool) → keys_of (cond b es (es ++ (n, c) ∷ [])) ≡ cond b (keys_of es) (keys_of es ++ n ∷ [])
  keys_with es n c true = refl
  keys_with es n c false = map-append (λ e. e.0) es ((n, c) ∷ [])

  shared_step : (ns : List Name)
      → ((l : Layout) → (with_slots of l ns).shared ≡ l.shared ++ new_of (λ e. e.0) (keys_of l.shared) (first_of_each (λ e. e.0) (filter_map (λ n. shared_in n (of n)) ns)))
      → (l : Layout) (n : Name) (o : Option SlotAllocation)
      → (with_slots of (with_slot l n o) ns).shared ≡ l.shared ++ new_of (λ e. e.0) (keys_of l.shared) (first_of_each (λ e. e.0) (cons_option (shared_in n o) (filter_map (λ m. shared_in m (of m)) ns)))
  shared_step ns f l n None = f l
  shared_step ns f l n (Some Local) = f (with_slot l n (Some Local))
  shared_step ns f l n (Some (Shared c)) =
      f (with_slot l n (Some (Shared c)))
      ∙ ap (λ ks. with_cell l.shared n c ++ new_of (λ e. e.0) ks (first_of_each (λ e. e.0) (filter_map (λ m. shared_in m (of m)) ns))) (keys_with l.shared n c (list_any (same_name n) (keys_of l.shared)))
      ∙ added (λ e. e.0) l.shared (keys_of l.shared) (n, c) (filter_map (λ m. shared_in m (of m)) ns) (list_any (same_name n) (keys_of l.shared)) refl

  shared_built : (ns : List Name) (l : Layout)
      → (with_slots of l ns).shared ≡ l.shared ++ new_of (λ e. e.0) (keys_of l.shared) (first_of_each (λ e. e.0) (filter_map (λ n. shared_in n (of n)) ns))
  shared_built [] l = none_after l.shared
  shared_built (n ∷ ns) l = shared_step ns (shared_built ns) l n (of n)

  local_is : (m x : Name) (b : Bool) → local_if m b ≡ Some x → x ≡ m
  local_is m x true e = cc
  local_is m x false e = cc

  shared_is : (m : Name) (x : Name × CellId) (o : Option SlotAllocation) → shared_in m o ≡ Some x → x.0 ≡ m
  shared_is m x None e = cc
  shared_is m x (Some Local) e = cc
  shared_is m x (Some (Shared c)) e = let p : Some (m, c) ≡ Some x = e in let q : (m, c) ≡ x = cc in sym (ap (λ y. y.0) q)

  chosen_by : (m : Name) (xs : List Name) (b : Bool) → cons_option (local_if m b) xs ≡ cond b (m ∷ xs) xs
  chosen_by m xs true = refl
  chosen_by m xs false = refl

  chosen : (ms : List Name) → filter_map (λ m. local_in m (of m)) ms ≡ filter (λ m. is_local (of m)) ms
  chosen [] = refl
  chosen (m ∷ ms) = chosen_by m (filter_map (λ k. local_in k (of k)) ms) (is_local (of m)) ∙ ap (λ l. cond (is_local (of m)) (m ∷ l) l) (chosen ms)

  locals_are : (ns : List Name) → (with_slots of no_slots ns).locals ≡ filter (λ n. is_local (of n)) (distinct ns)
  locals_are ns =
      locals_built ns no_slots
      ∙ filter_all (distinct (filter_map (λ n. local_in n (of n)) ns))
      ∙ each (λ n. n) (λ n. local_in n (of n)) (λ m x e. local_is m x (is_local (of m)) e) ns
      ∙ chosen (distinct ns)

  shared_are : (ns : List Name) → (with_slots of no_slots ns).shared ≡ filter_map (λ n. shared_in n (of n)) (distinct ns)
  shared_are ns =
      shared_built ns no_slots
      ∙ filter_all (first_of_each (λ e. e.0) (filter_map (λ n. shared_in n (of n)) ns))
      ∙ each (λ e. e.0) (λ n. shared_in n (of n)) (λ m x e. shared_is m x (of m) e) ns

  pub are_built : (ns : List Name) → with_slots of no_slots ns ≡ layout_by of (distinct ns)
  are_built ns = λ i. record { locals = locals_are ns i; shared = shared_are ns i }

-- ---- slots of classes

-- all slots of these classes, from the last class to the first
abbrev pub all_names : DirectSlots → List ClassId → List Name
all_names of cs = names (flat_map of (latest_first cs))
