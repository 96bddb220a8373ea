-- What stands in a layout, and that nothing does twice.
use Rattle.std.proofs.Common.{◌≡◌, ℕ, Bool, true, false, ◌&&◌, ◌||◌, true≢false, List, [], ◌∷◌, ◌++◌, Option, Some, None, refl, ap, sym, ◌∙◌}
use Rattle.std.specs.Prelude.{reverse, cond, not, is_some, if◌then◌else◌}
use Rattle.std.specs.List.{filter, filter_map, flat_map, list_any, cons_option}
use Rattle.std.specs.Map.{keys_of, lookup}
use Rattle.std.proofs.lemmas.List.{map-append, reverse-append}
use Rattle.std.proofs.lemmas.List.Folds.{list_any-append}
use Rattle.std.proofs.lemmas.Map.Views.{any-filter_same}
use Rattle.lisp_data.specs.Name.{Name, same_name}
use Rattle.lisp_data.specs.declared.ids.CellId.{CellId}
use Rattle.clos_forms.specs.Distinct.{are_distinct}
use Rattle.clos_class.specs.declared.direct.DirectSlot.{DirectSlot}
use Rattle.clos_class.specs.declared.direct.SlotAllocation.{SlotAllocation}
use Rattle.clos_class.specs.declared.direct.SlotAllocation.TheVariants.{Local, Shared}
use Rattle.clos_class.specs.Slots.{DirectSlots, accessible, allocation, called, cell_in, distinct, first_allocation, is_local, names, shared_in}
use Rattle.clos_class.specs.Laws.{HasNoneTwice, PlacesSlots}
use Rattle.clos_class.proofs.Each.{is_same, turned}

-- ---- the accessible slots are those that have an allocation

other_name : (n m k : Name) → same_name n m ≡ false → same_name n k ≡ true → not (same_name m k) ≡ true
other_name n m k e h = ap not (ap (same_name m) (sym (is_same n k h)) ∙ turned m n ∙ e)

among_by : (n m : Name) (ms ns : List Name) (b : Bool) → same_name n m ≡ b → list_any (same_name n) ms ≡ list_any (same_name n) ns
    → (b || list_any (same_name n) (filter (λ k. not (same_name m k)) ms)) ≡ (b || list_any (same_name n) ns)
among_by n m ms ns true e f = refl
among_by n m ms ns false e f = any-filter_same (same_name n) (λ k. not (same_name m k)) true (λ k h. other_name n m k e h) ms ∙ f

-- a name is among some where it is among them each once
pub among_each : (n : Name) (ns : List Name) → list_any (same_name n) (distinct ns) ≡ list_any (same_name n) ns
among_each n [] = refl
among_each n (m ∷ ns) = among_by n m (distinct ns) ns (same_name n m) refl (among_each n ns)

called_by : (n : Name) (s : DirectSlot) (ss : List DirectSlot) (b : Bool) → list_any (same_name n) (names ss) ≡ is_some (first_allocation (called n ss))
    → (b || list_any (same_name n) (names ss)) ≡ is_some (first_allocation (cond b (s ∷ called n ss) (called n ss)))
called_by n s ss true e = refl
called_by n s ss false e = e

among_called : (n : Name) (ss : List DirectSlot) → list_any (same_name n) (names ss) ≡ is_some (first_allocation (called n ss))
among_called n [] = refl
among_called n (s ∷ ss) = called_by n s ss (same_name n s.name) (among_called n ss)

or_swapped : (a b : Bool) → (a || b) ≡ (b || a)
or_swapped true true = refl
or_swapped true false = refl
or_swapped false true = refl
or_swapped false false = refl

or_false : (a : Bool) → (a || false) ≡ a
or_false true = refl
or_false false = refl

among_two : (of : DirectSlots) (n : Name) (c : ℕ) (l : List ℕ)
    → list_any (same_name n) (names (flat_map of (c ∷ l))) ≡ (list_any (same_name n) (names (of c)) || list_any (same_name n) (names (flat_map of l)))
among_two of n c l =
    ap (list_any (same_name n)) (map-append (λ s. s.name) (of c) (flat_map of l)) ∙ list_any-append (same_name n) (names (of c)) (names (flat_map of l))

or_after : (a b c : Bool) → (a || (b || c)) ≡ ((a || b) || c)
or_after true b c = refl
or_after false b c = refl

among_at_end : (of : DirectSlots) (n : Name) (l : List ℕ) (c : ℕ)
    → list_any (same_name n) (names (flat_map of (l ++ c ∷ []))) ≡ (list_any (same_name n) (names (flat_map of l)) || list_any (same_name n) (names (of c)))
among_at_end of n [] c = among_two of n c [] ∙ or_false (list_any (same_name n) (names (of c)))
among_at_end of n (d ∷ l) c =
    among_two of n d (l ++ c ∷ [])
    ∙ ap (λ b. list_any (same_name n) (names (of d)) || b) (among_at_end of n l c)
    ∙ or_after (list_any (same_name n) (names (of d))) (list_any (same_name n) (names (flat_map of l))) (list_any (same_name n) (names (of c)))
    ∙ ap (λ b. b || list_any (same_name n) (names (of c))) (sym (among_two of n d l))

-- the order of the classes is all one
among_turned : (of : DirectSlots) (n : Name) (l : List ℕ) → list_any (same_name n) (names (flat_map of (reverse l))) ≡ list_any (same_name n) (names (flat_map of l))
among_turned of n [] = refl
among_turned of n (c ∷ l) =
    ap (λ k. list_any (same_name n) (names (flat_map of k))) (reverse-append (c ∷ []) l)
    ∙ among_at_end of n (reverse l) c
    ∙ or_swapped (list_any (same_name n) (names (flat_map of (reverse l)))) (list_any (same_name n) (names (of c)))
    ∙ ap (λ b. list_any (same_name n) (names (of c)) || b) (among_turned of n l)
    ∙ sym (among_two of n c l)

pub among_accessible : (of : DirectSlots) (l : List ℕ) (n : Name) → list_any (same_name n) (accessible of l) ≡ is_some (allocation of l n)
among_accessible of l n = among_each n (names (flat_map of (reverse l))) ∙ among_turned of n l ∙ among_called n (flat_map of l)

-- ---- what stands in a layout

local_and : (o : Option SlotAllocation) → (is_local o && is_some o) ≡ is_local o
local_and None = refl
local_and (Some Local) = refl
local_and (Some (Shared c)) = refl

none_if : (a : Bool) (o : Option CellId) → o ≡ None → (if a then o else None) ≡ o
none_if true o q = refl
none_if false o q = sym q

module _ (f : Name → Option SlotAllocation) where
  among_locals : (n : Name) (ms : List Name) → list_any (same_name n) (filter (λ m. is_local (f m)) ms) ≡ (is_local (f n) && list_any (same_name n) ms)
  among_locals n ms = any-filter_same (same_name n) (λ m. is_local (f m)) (is_local (f n)) (λ k h. ap (λ m. is_local (f m)) (sym (is_same n k h))) ms

  -- what is found of a name that stands first, and of the others
  found_by : (n m : Name) (es : List (Name × CellId)) (any : Bool) (o : Option SlotAllocation) → f m ≡ o → lookup (same_name n) es ≡ (if any then cell_in (f n) else None)
      → (b : Bool) → same_name n m ≡ b → lookup (same_name n) (cons_option (shared_in m o) es) ≡ (if b || any then cell_in (f n) else None)
  found_by n m es any None e h true s = h ∙ none_if any (cell_in (f n)) (ap (λ k. cell_in (f k)) (is_same n m s) ∙ ap cell_in e)
  found_by n m es any None e h false s = h
  found_by n m es any (Some Local) e h true s = h ∙ none_if any (cell_in (f n)) (ap (λ k. cell_in (f k)) (is_same n m s) ∙ ap cell_in e)
  found_by n m es any (Some Local) e h false s = h
  found_by n m es any (Some (Shared c)) e h true s =
      ap (λ b. cond b (Some c) (lookup (same_name n) es)) s ∙ sym (ap (λ k. cell_in (f k)) (is_same n m s) ∙ ap cell_in e)
  found_by n m es any (Some (Shared c)) e h false s = ap (λ b. cond b (Some c) (lookup (same_name n) es)) s ∙ h

  found_shared : (n : Name) (ms : List Name) → lookup (same_name n) (filter_map (λ m. shared_in m (f m)) ms) ≡ (if list_any (same_name n) ms then cell_in (f n) else None)
  found_shared n [] = refl
  found_shared n (m ∷ ms) = found_by n m (filter_map (λ k. shared_in k (f k)) ms) (list_any (same_name n) ms) (f m) refl (found_shared n ms) (same_name n m) refl

cell_if : (o : Option SlotAllocation) → (if is_some o then cell_in o else None) ≡ cell_in o
cell_if None = refl
cell_if (Some a) = refl

pub places_slots : PlacesSlots
places_slots of l n = (
  among_locals (allocation of l) n (accessible of l) ∙ ap (λ b. is_local (allocation of l n) && b) (among_accessible of l n) ∙ local_and (allocation of l n),
  found_shared (allocation of l) n (accessible of l) ∙ ap (λ b. if b then cell_in (allocation of l n) else None) (among_accessible of l n) ∙ cell_if (allocation of l n),
)

-- ---- nothing twice

and_first : (a b : Bool) → (a && b) ≡ true → a ≡ true
and_first true b h = refl
and_first false b h = h

and_second : (a b : Bool) → (a && b) ≡ true → b ≡ true
and_second true b h = h
and_second false b h = absurd (true≢false (sym h))

not_or : (a b : Bool) → not (a || b) ≡ true → (not a ≡ true) × (not b ≡ true)
not_or true b h = (h, absurd (true≢false (sym h)))
not_or false b h = (refl, h)

or_not : (a b : Bool) → not a ≡ true → not b ≡ true → not (a || b) ≡ true
or_not true b h k = h
or_not false b h k = k

kept_none : (q : Name → Bool) (x : Name) (ys : List Name) (b : Bool) → not (q x) ≡ true → not (list_any q ys) ≡ true → not (list_any q (cond b (x ∷ ys) ys)) ≡ true
kept_none q x ys true h k = or_not (q x) (list_any q ys) h k
kept_none q x ys false h k = k

none_kept : (p q : Name → Bool) (xs : List Name) → not (list_any q xs) ≡ true → not (list_any q (filter p xs)) ≡ true
none_kept p q [] h = h
none_kept p q (x ∷ xs) h = kept_none q x (filter p xs) (p x) (not_or (q x) (list_any q xs) h).0 (none_kept p q xs (not_or (q x) (list_any q xs) h).1)

both_true : (a b : Bool) → a ≡ true → b ≡ true → (a && b) ≡ true
both_true true b h k = k
both_true false b h k = h

kept_by : (x : Name) (ys : List Name) (b : Bool) → not (list_any (λ m. same_name m x) ys) ≡ true → are_distinct ys ≡ true → are_distinct (cond b (x ∷ ys) ys) ≡ true
kept_by x ys true h k = both_true (not (list_any (λ m. same_name m x) ys)) (are_distinct ys) h k
kept_by x ys false h k = k

-- some of names of which none stands twice
kept_distinct : (p : Name → Bool) (xs : List Name) → are_distinct xs ≡ true → are_distinct (filter p xs) ≡ true
kept_distinct p [] h = h
kept_distinct p (x ∷ xs) h =
    kept_by x (filter p xs) (p x) (none_kept p (λ m. same_name m x) xs (and_first (not (list_any (λ m. same_name m x) xs)) (are_distinct xs) h))
    (kept_distinct p xs (and_second (not (list_any (λ m. same_name m x) xs)) (are_distinct xs) h))

same_out : (n k : Name) → same_name k n ≡ true → not (same_name n k) ≡ false
same_out n k h = ap not (turned n k ∙ h)

pub each_distinct : (ns : List Name) → are_distinct (distinct ns) ≡ true
each_distinct [] = refl
each_distinct (n ∷ ns) =
    both_true (not (list_any (λ m. same_name m n) (filter (λ k. not (same_name n k)) (distinct ns)))) (are_distinct (filter (λ k. not (same_name n k)) (distinct ns)))
    (ap not (any-filter_same (λ m. same_name m n) (λ k. not (same_name n k)) false (λ k h. same_out n k h) (distinct ns)))
    (kept_distinct (λ k. not (same_name n k)) (distinct ns) (each_distinct ns))

none_like : (n : Name) (ns : List Name) → not (list_any (λ m. same_name m n) ns) ≡ true → filter (λ m. not (same_name n m)) ns ≡ ns
none_like n [] h = refl
none_like n (m ∷ ns) h =
    ap (λ b. cond b (m ∷ filter (λ k. not (same_name n k)) ns) (filter (λ k. not (same_name n k)) ns))
    (ap not (turned n m) ∙ (not_or (same_name m n) (list_any (λ k. same_name k n) ns) h).0)
    ∙ ap (λ l. m ∷ l) (none_like n ns (not_or (same_name m n) (list_any (λ k. same_name k n) ns) h).1)

none_twice : (ns : List Name) → are_distinct ns ≡ true → distinct ns ≡ ns
none_twice [] h = refl
none_twice (n ∷ ns) h =
    ap (λ l. n ∷ l)
    (ap (filter (λ m. not (same_name n m))) (none_twice ns (and_second (not (list_any (λ m. same_name m n) ns)) (are_distinct ns) h))
    ∙ none_like n ns (and_first (not (list_any (λ m. same_name m n) ns)) (are_distinct ns) h))

pub distinct_again : (ns : List Name) → distinct (distinct ns) ≡ distinct ns
distinct_again ns = none_twice (distinct ns) (each_distinct ns)

key_kept : (m : Name) (es : List (Name × CellId)) (o : Option SlotAllocation) → keys_of (cons_option (shared_in m o) es) ≡ cond (is_some (shared_in m o)) (m ∷ keys_of es) (keys_of es)
key_kept m es None = refl
key_kept m es (Some Local) = refl
key_kept m es (Some (Shared c)) = refl

shared_names : (f : Name → Option SlotAllocation) (ms : List Name) → keys_of (filter_map (λ m. shared_in m (f m)) ms) ≡ filter (λ m. is_some (shared_in m (f m))) ms
shared_names f [] = refl
shared_names f (m ∷ ms) =
    key_kept m (filter_map (λ k. shared_in k (f k)) ms) (f m) ∙ ap (λ ks. cond (is_some (shared_in m (f m))) (m ∷ ks) ks) (shared_names f ms)

pub has_none_twice : HasNoneTwice
has_none_twice of l = (
  kept_distinct (λ n. is_local (allocation of l n)) (accessible of l) (each_distinct (names (flat_map of (reverse l)))),
  ap are_distinct (shared_names (allocation of l) (accessible of l))
      ∙ kept_distinct (λ n. is_some (shared_in n (allocation of l n))) (accessible of l) (each_distinct (names (flat_map of (reverse l)))),
)
