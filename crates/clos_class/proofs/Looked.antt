-- What is found of a class's slots by their names.
use Rattle.std.proofs.Common.{◌≡◌, ℕ, suc, Bool, true, false, List, [], ◌∷◌, Option, Some, None, map, length, get_or, Bor, ◌≤◌, ◌+◌, ◌||◌, arith, refl, ap, sym, ◌∙◌}
use Rattle.std.specs.Prelude.{IfSome, cond, is_some, nat_lt, not, option_copied, position, slice_get}
use Rattle.std.specs.List.{find, flat_map, list_any, position_or_len}
use Rattle.std.specs.Option.{option_and_then, option_map_or}
use Rattle.std.proofs.lemmas.Bool.{ltb-false, ltb-true}
use Rattle.std.proofs.lemmas.List.Folds.{find_at}
use Rattle.std.proofs.lemmas.Option.{slice_get_past, slice_get_read}
use Rattle.lisp_data.specs.Name.{Name, same_name}
use Rattle.clos_class.specs.declared.direct.DirectSlot.{DirectSlot}
use Rattle.clos_class.specs.declared.effective_slots.EffectiveSlot.{EffectiveSlot}
use Rattle.clos_class.specs.Slots.{DirectSlots, accessible, distinct, effective_slot, effective_slots, first_allocation, first_initform, initargs, initform, specifiers}
use Rattle.clos_class.proofs.Each.{is_same}
use Rattle.clos_class.proofs.Placed.{among_accessible}

-- ---- by their places

place_named : (n : Name) (ss : List EffectiveSlot) → position_or_len (same_name n) (map (λ s. s.name) ss) ≡ position_or_len (λ s. same_name n s.name) ss
place_named n [] = refl
place_named n (s ∷ ss) = ap (λ k. cond (not (same_name n s.name)) (1 + k) 0) (place_named n ss)

so_many_names : (ss : List EffectiveSlot) → length (map (λ s. s.name) ss) ≡ length ss
so_many_names [] = refl
so_many_names (s ∷ ss) = ap suc (so_many_names ss)

at_by : (ss : List EffectiveSlot) (k : ℕ) (b : Bool) → nat_lt k (length (map (λ s. s.name) ss)) ≡ b → option_and_then (slice_get ss) (cond b (Some k) None) ≡ slice_get ss k
at_by ss k true e = refl
at_by ss k false e =
    let g : length (map (λ s. s.name) ss) ≤ k = ltb-false k (length (map (λ s. s.name) ss)) e in
    let m = so_many_names ss in
    sym (slice_get_past ss k (omega (arith, g, m)))

-- the slot at the place of its name
pub slot_at : (n : Name) (names : List Name) (ss : List EffectiveSlot) → names ≡ map (λ s. s.name) ss → option_and_then (slice_get ss) (position (same_name n) names) ≡ find (λ s. same_name n s.name) ss
slot_at n names ss e =
    ap (λ ns. option_and_then (slice_get ss) (position (same_name n) ns)) e
    ∙ at_by ss (position_or_len (same_name n) (map (λ s. s.name) ss)) (nat_lt (position_or_len (same_name n) (map (λ s. s.name) ss)) (length (map (λ s. s.name) ss))) refl
    ∙ ap (slice_get ss) (place_named n ss)
    ∙ sym (find_at (λ s. same_name n s.name) ss)

-- what is read of some at a place
pub read : (ss : List EffectiveSlot) (i : ℕ) (o : Option (Bor EffectiveSlot)) → is_some o ≡ nat_lt i (length ss) → IfSome o (λ s. s.now ≡ get_or ss i s.now) → option_copied o ≡ slice_get ss i
read ss i None e h = sym (slice_get_past ss i (ltb-false i (length ss) (sym e)))
read ss i (Some s) e h = sym (slice_get_read ss (length ss) i s.now refl (ltb-true i (length ss) (sym e)) h)

-- ---- what a class has for a name

abbrev slot_if : DirectSlots → List ℕ → Name → Bool → Option EffectiveSlot
slot_if of l n true = Some (effective_slot of l n)
slot_if of l n false = None

module _ (of : DirectSlots) (l : List ℕ) where
  found_by : (n m : Name) (b c : Bool) (o : Option EffectiveSlot) → same_name n m ≡ b → o ≡ slot_if of l n c → cond b (Some (effective_slot of l m)) o ≡ slot_if of l n (cond b true c)
  found_by n m true c o s e = ap (λ k. Some (effective_slot of l k)) (sym (is_same n m s))
  found_by n m false c o s e = e

  or_is : (n : Name) (a b : Bool) → slot_if of l n (cond a true b) ≡ slot_if of l n (a || b)
  or_is n true b = refl
  or_is n false b = refl

  found_among : (n : Name) (ms : List Name) → find (λ s. same_name n s.name) (map (effective_slot of l) ms) ≡ slot_if of l n (list_any (same_name n) ms)
  found_among n [] = refl
  found_among n (m ∷ ms) =
      found_by n m (same_name n m) (list_any (same_name n) ms) (find (λ s. same_name n s.name) (map (effective_slot of l) ms)) refl (found_among n ms) ∙ or_is n (same_name n m) (list_any (same_name n) ms)

  found_slot : (n : Name) → find (λ s. same_name n s.name) (effective_slots of l) ≡ slot_if of l n (is_some (first_allocation (specifiers of l n)))
  found_slot n = found_among n (accessible of l) ∙ ap (slot_if of l n) (among_accessible of l n)

  initargs_by : (n : Name) (ss : List DirectSlot) → ss ≡ specifiers of l n → option_map_or (λ s. s.initargs) (slot_if of l n (is_some (first_allocation ss))) [] ≡ distinct (flat_map (λ s. s.initargs) ss)
  initargs_by n [] e = refl
  initargs_by n (s ∷ ss) e = ap (λ xs. distinct (flat_map (λ x. x.initargs) xs)) (sym e)

  pub found_initargs : (n : Name) (o : Option EffectiveSlot) → o ≡ find (λ s. same_name n s.name) (effective_slots of l) → option_map_or (λ s. s.initargs) o [] ≡ initargs of l n
  found_initargs n o e = ap (λ q. option_map_or (λ s. s.initargs) q []) (e ∙ found_slot n) ∙ initargs_by n (specifiers of l n) refl

  initform_by : (n : Name) (ss : List DirectSlot) → ss ≡ specifiers of l n → option_and_then (λ s. s.initform) (slot_if of l n (is_some (first_allocation ss))) ≡ first_initform ss
  initform_by n [] e = refl
  initform_by n (s ∷ ss) e = ap first_initform (sym e)

  pub found_initform : (n : Name) (o : Option EffectiveSlot) → o ≡ find (λ s. same_name n s.name) (effective_slots of l) → option_and_then (λ s. s.initform) o ≡ initform of l n
  found_initform n o e = ap (option_and_then (λ s. s.initform)) (e ∙ found_slot n) ∙ initform_by n (specifiers of l n) refl
