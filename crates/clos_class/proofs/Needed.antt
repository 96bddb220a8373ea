-- Slots that need new cells.
use Rattle.std.proofs.Common.{◌≡◌, ℕ, zero, suc, ◌==◌, Bool, true, false, ◌||◌, ◌&&◌, List, [], ◌∷◌, ◌++◌, Option, Some, None, length, ◌≤◌, refl, ap, sym, ◌∙◌}
use Rattle.std.specs.Prelude.{cond, is_some, map, not, position, slice_get, unwrap_or}
use Rattle.std.specs.List.{cons_option, filter, filter_map, flat_map, list_any}
use Rattle.std.specs.Option.{option_or}
use Rattle.std.proofs.lemmas.List.{map-append}
use Rattle.std.proofs.lemmas.List.Folds.{list_any-append}
use Rattle.std.proofs.lemmas.List.Elements.{filter-append}
use Rattle.lisp_data.specs.Name.{Name, same_name}
use Rattle.lisp_data.specs.declared.ids.CellId.{CellId}
use Rattle.lisp_data.specs.declared.ids.ClassId.{ClassId}
use Rattle.clos_defclass.specs.declared.class.ClassDefinition.{ClassDefinition}
use Rattle.clos_defclass.specs.declared.slot.SlotSpecifier.{SlotSpecifier}
use Rattle.clos_precedence.specs.PrecedenceView.{latest_first}
use Rattle.clos_precedence.proofs.Lists.{latest}
use Rattle.clos_class.specs.declared.direct.ClassSlots.{ClassSlots}
use Rattle.clos_class.specs.declared.direct.SlotAllocation.{SlotAllocation}
use Rattle.clos_class.specs.declared.reserve.NewCell.{NewCell}
use Rattle.clos_class.specs.declared.rows.Rows.{Rows}
use Rattle.clos_class.specs.Slots.{DirectSlots, accessible, allocation, cell_in, distinct, initform, names}
use Rattle.clos_class.specs.SlotsView.{direct_slots, or_said, row_of, slots_in}
use Rattle.clos_class.specs.inner.Building.{with_name, with_names}
use Rattle.clos_class.specs.Table.{cell_at, cell_for, cells_to_make, is_shared, no_cell, needs_cell, new_cells, own_cell, rows_with, said, with_row}
use Rattle.clos_class.proofs.Added.{all_names as all_added, one_name, some_names}
use Rattle.clos_class.proofs.Built.{all_names}
use Rattle.clos_class.proofs.Each.{each, is_same}
use Rattle.clos_class.proofs.Rowed.{Sees, same_slots, sees}

-- ---- some of the names, each once

abbrev if_so : Name → Bool → Option Name
if_so n true = Some n
if_so n false = None

is_so : (m x : Name) (b : Bool) → if_so m b ≡ Some x → x ≡ m
is_so m x true e = cc
is_so m x false e = cc

chosen_by : (m : Name) (xs : List Name) (b : Bool) → cons_option (if_so m b) xs ≡ cond b (m ∷ xs) xs
chosen_by m xs true = refl
chosen_by m xs false = refl

module _ (p : Name → Bool) where
  chosen : (ms : List Name) → filter_map (λ m. if_so m (p m)) ms ≡ filter p ms
  chosen [] = refl
  chosen (m ∷ ms) = chosen_by m (filter_map (λ k. if_so k (p k)) ms) (p m) ∙ ap (λ l. cond (p m) (m ∷ l) l) (chosen ms)

  distinct_some : (ns : List Name) → distinct (filter p ns) ≡ filter p (distinct ns)
  distinct_some ns = ap distinct (sym (chosen ns)) ∙ each (λ n. n) (λ n. if_so n (p n)) (λ m x e. is_so m x (p m) e) ns ∙ chosen (distinct ns)

  -- all of them are added to none
  pub all_of : (of : DirectSlots) (cs : List ClassId) (l : List ℕ) → l ≡ latest_first cs → with_names [] (filter p (all_names of cs)) ≡ filter p (distinct (names (flat_map of l)))
  all_of of cs l e =
      all_added (filter p (all_names of cs)) ∙ distinct_some (all_names of cs) ∙ ap (λ k. filter p (distinct (names (flat_map of k)))) (sym e)

  -- those of one class more
  pub next_class : (of : DirectSlots) (found more : List Name) (cs : List ClassId) (c : ClassId) → more ≡ with_names found (filter p (names (of c.0)))
      → with_names more (filter p (all_names of cs)) ≡ with_names found (filter p (all_names of (cs ++ c ∷ [])))
  next_class of found more cs c e =
      ap (λ k. with_names k (filter p (all_names of cs))) e
      ∙ some_names found (filter p (names (of c.0))) (filter p (all_names of cs))
      ∙ ap (with_names found)
      (sym (ap (λ k. filter p (names (flat_map of k))) (latest cs c)
      ∙ ap (filter p) (map-append (λ s. s.name) (of c.0) (flat_map of (latest_first cs)))
      ∙ filter-append p (names (of c.0)) (names (flat_map of (latest_first cs)))))

-- ---- the slots that need new cells

none_of : (p : Name → Bool) (ns : List Name) → ((n : Name) → false ≡ p n) → [] ≡ filter p ns
none_of p [] e = refl
none_of p (n ∷ ns) e = none_of p ns e ∙ ap (λ b. cond b (n ∷ filter p ns) (filter p ns)) (e n)

-- where none needs one
pub none_needed : (rows : List ClassSlots) (n : ℕ) (l : List ℕ) (d : ClassDefinition) (f : Name → Option CellId) (found : List Name) → ((m : Name) → f m ≡ own_cell rows n m)
    → ((m : Name) → list_any (same_name m) found ≡ needs_cell f d.slots m) → found ≡ [] → found ≡ new_cells rows n l d
none_needed rows n l d f found e h z =
    z
    ∙ none_of (needs_cell (own_cell rows n) d.slots) (accessible (direct_slots (rows_with rows n d [] [])) l)
    (λ m. sym (ap (list_any (same_name m)) z) ∙ h m ∙ ap (λ g. needs_cell g d.slots m) (λ i k. e k i))

pub in_order : (r : Rows) (rows : List ClassSlots) (n : ℕ) (l : List ℕ) (row said : ClassSlots) (p : Name → Bool) (found : List Name) → row ≡ said → n ≤ length rows
    → ((m : ℕ) → row_of r m ≡ or_said (Some row) (m == n) (slice_get rows m)) → found ≡ filter p (accessible (slots_in r) l) → found ≡ filter p (accessible (direct_slots (with_row rows n said)) l)
in_order r rows n l row said p found e h v g =
    g
    ∙ ap (λ of. filter p (accessible of l)) (same_slots r (with_row rows n row) (sees r rows n row h v))
    ∙ ap (λ w. filter p (accessible (direct_slots (with_row rows n w)) l)) e

no_cell_at : (o : Option ℕ) → cell_at [] o ≡ None
no_cell_at None = refl
no_cell_at (Some zero) = refl
no_cell_at (Some (suc i)) = refl

no_new : (f : Name → Option CellId) (ns : List Name) → cell_for f ns [] ≡ cell_for f [] []
no_new f ns = λ i m. unwrap_or (option_or (f m) ((no_cell_at (position (same_name m) ns) ∙ sym (no_cell_at (position (same_name m) []))) i)) no_cell

pub some_needed : (rows : List ClassSlots) (n : ℕ) (l : List ℕ) (d : ClassDefinition) (f : Name → Option CellId) (lacking found : List Name) → ((m : Name) → f m ≡ own_cell rows n m)
    → ((m : Name) → list_any (same_name m) lacking ≡ needs_cell f d.slots m)
    → found ≡ filter (λ m. list_any (same_name m) lacking) (accessible (direct_slots (with_row rows n (said (cell_for f lacking []) d))) l) → found ≡ new_cells rows n l d
some_needed rows n l d f lacking found e h g =
    g
    ∙ ap (λ p. filter p (accessible (direct_slots (with_row rows n (said (cell_for f lacking []) d))) l)) (λ i m. h m i)
    ∙ ap (λ k. filter (needs_cell f d.slots) (accessible (direct_slots (with_row rows n (said k d))) l)) (no_new f lacking)
    ∙ ap (λ k. filter (needs_cell k d.slots) (accessible (direct_slots (with_row rows n (said (cell_for k [] []) d))) l)) (λ i m. e m i)

-- ---- one slot more

pub one_among : (p : Name → Bool) (ks new : List Name) (n : Name) (ns : List Name) → p n ≡ true → new ≡ with_name ks n → with_names new (filter p ns) ≡ with_names ks (filter p (n ∷ ns))
one_among p ks new n ns h e = ap (λ k. with_names k (filter p ns)) e ∙ one_name ks n (filter p ns) ∙ ap (λ b. with_names ks (cond b (n ∷ filter p ns) (filter p ns))) (sym h)

or_true : (a : Bool) → (a || true) ≡ true
or_true true = refl
or_true false = refl

or_false : (a : Bool) → (a || false) ≡ a
or_false true = refl
or_false false = refl

among_known : (n m : Name) (ks : List Name) (b : Bool) → same_name n m ≡ b → list_any (same_name m) ks ≡ true → list_any (same_name n) ks ≡ (list_any (same_name n) ks || b)
among_known n m ks true e h = ap (λ k. list_any (same_name k) ks) (is_same n m e) ∙ h ∙ sym (or_true (list_any (same_name n) ks))
among_known n m ks false e h = sym (or_false (list_any (same_name n) ks))

among_by : (n m : Name) (ks : List Name) (b : Bool) → list_any (same_name m) ks ≡ b → list_any (same_name n) (cond b ks (ks ++ m ∷ [])) ≡ (list_any (same_name n) ks || same_name n m)
among_by n m ks true h = among_known n m ks (same_name n m) refl h
among_by n m ks false h = list_any-append (same_name n) ks (m ∷ []) ∙ ap (λ b. list_any (same_name n) ks || b) (or_false (same_name n m))

or_after : (a b c : Bool) → ((a || b) || c) ≡ (a || (b || c))
or_after true b c = refl
or_after false b c = refl

and_true : (a b : Bool) → b ≡ true → a ≡ (a && b)
and_true true b h = sym h
and_true false b h = refl

abbrev pub lacks : (Name → Option CellId) → SlotSpecifier → Bool
lacks f s = is_shared s.allocation && not (is_some (f s.name))

pub one_lacking : (f : Name → Option CellId) (n : Name) (ks new : List Name) (s : SlotSpecifier) (ss : List SlotSpecifier) → new ≡ with_name ks s.name → lacks f s ≡ true
    → (list_any (same_name n) new || needs_cell f ss n) ≡ (list_any (same_name n) ks || needs_cell f (s ∷ ss) n)
one_lacking f n ks new s ss e h =
    ap (λ k. list_any (same_name n) k || needs_cell f ss n) e
    ∙ ap (λ b. b || needs_cell f ss n) (among_by n s.name ks (list_any (same_name s.name) ks) refl)
    ∙ or_after (list_any (same_name n) ks) (same_name n s.name) (needs_cell f ss n)
    ∙ ap (λ b. list_any (same_name n) ks || (b || needs_cell f ss n)) (and_true (same_name n s.name) (lacks f s) h)

pub own_found : (r : Rows) (rows : List ClassSlots) (n : ℕ) (o : Name → Option SlotAllocation) → Sees r rows → ((m : Name) → o m ≡ allocation (slots_in r) (n ∷ []) m) → (m : Name) → cell_in (o m) ≡ own_cell rows n m
own_found r rows n o v e m = ap cell_in (e m ∙ ap (λ of. allocation of (n ∷ []) m) (same_slots r rows v))

pub is_none : (ns : List Name) → length ns ≡ 0 → ns ≡ []
is_none [] e = refl
is_none (n ∷ ns) e = cc

-- ---- what is told of them

pub to_make : (rows : List ClassSlots) (r : Rows) (n : ℕ) (l : List ℕ) (d : ClassDefinition) (f : Name → Option CellId) (ns slots : List Name) (row : ClassSlots) (found : List NewCell) → n ≤ length rows
    → ((m : Name) → f m ≡ own_cell rows n m) → ns ≡ new_cells rows n l d → slots ≡ ns → row ≡ said (cell_for f ns []) d → ((m : ℕ) → row_of r m ≡ or_said (Some row) (m == n) (slice_get rows m))
    → found ≡ map (λ name. record { slot = name; initform = initform (slots_in r) l name }) slots → found ≡ cells_to_make rows n l d
to_make rows r n l d f ns slots row found b e h z s v g =
    g
    ∙ ap (λ ms. map (λ name. record { slot = name; initform = initform (slots_in r) l name }) ms) (z ∙ h)
    ∙ ap (λ of. map (λ name. record { slot = name; initform = initform of l name }) (new_cells rows n l d))
    (same_slots r (with_row rows n row) (sees r rows n row b v)
    ∙ ap (λ w. direct_slots (with_row rows n w)) (s ∙ ap (λ k. said k d) (no_new f ns) ∙ ap (λ k. said (cell_for k [] []) d) (λ i m. e m i)))
