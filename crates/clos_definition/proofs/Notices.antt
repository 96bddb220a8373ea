-- What is told of an effect, and what may be told of it at most.
use Rattle.std.proofs.Common.{◌≡◌, ℕ, zero, suc, ◌+◌, ◌≤◌, ◌++◌, Bool, true, false, List, [], ◌∷◌, Option, Some, None, drop, length, map, append_assoc, length-append, arith, ap, ◌∙◌}
use Rattle.std.specs.Prelude.{slice_get, if◌then◌else◌}
use Rattle.lisp_data.specs.declared.ids.GenericId.{GenericId}
use Rattle.clos_generic.specs.Table.{Table, find_method, named, with_method}
use Rattle.clos_generic.specs.declared.changes.Definition.{Definition}
use Rattle.clos_generic.specs.declared.changes.Removal.{Removal}
use Rattle.clos_method.specs.declared.method.Method.{Method}
use Rattle.clos_watch.specs.Watching.{Watching, changed, has, times_told}
use Rattle.clos_watch.specs.declared.notice.Metaobject.TheVariants.{Generic}
use Rattle.clos_watch.specs.declared.notice.Notice.{Notice}
use Rattle.clos_watch.specs.declared.notice.Notice.TheVariants.{MethodAdded, MethodRemoved}
use Rattle.clos_definition.specs.Effect.{of_additions, of_changes, of_definition, of_definitions, of_removal, of_replaced, possible, possible_changes, with_definitions, without_all}
use Rattle.clos_definition.specs.Removal.{is_method_of, removal_notices}

-- ---- one after another

pub drop_next : {A : Type 0} (xs : List A) (n : ℕ) (x : A) → slice_get xs n ≡ Some x → drop n xs ≡ x ∷ drop (suc n) xs
drop_next [] n x e = absurd (cc e)
drop_next (y ∷ ys) zero x e = cc e
drop_next (y ∷ ys) (suc n) x e = drop_next ys n x e

-- the list of four parts, in which the first three come one after another
pub in_order : {A : Type 0} (old a b c : List A) → old ++ a ++ b ++ c ≡ old ++ (a ++ b ++ c)
in_order old a b c = ap (λ x. x ++ c) (append_assoc old a b) ∙ append_assoc old (a ++ b) c

pub length_of_three : {A : Type 0} (a b c : List A) → length (a ++ b ++ c) ≡ length a + length b + length c
length_of_three a b c = length-append (a ++ b) c ∙ ap (λ n. n + length c) (length-append a b)

-- of each function at most one
few_by : (o : Option ℕ) (rest : List Notice) (n : ℕ) → length rest ≤ n → length (of_definition o ++ rest) ≤ suc n
few_by None rest n h = omega (arith, h)
few_by (Some g) rest n h = omega (arith, h)

pub few_definitions : (ds : List Definition) (t : Table) → length (of_definitions ds t) ≤ length ds
few_definitions [] t = omega arith
few_definitions (d ∷ ds) t = few_by (named t d.name) (of_definitions ds t) (length ds) (few_definitions ds t)

-- ---- no more is told than what may be told

module _ (w : Watching) (p : ℕ) where
  times_append : (xs ys : List Notice) → times_told w (xs ++ ys) p ≡ times_told w xs p + times_told w ys p
  times_append [] ys = let n : times_told w ys p ≡ 0 + times_told w ys p = omega arith in n
  times_append (x ∷ xs) ys =
      counted_by (has (w (changed x)) p) (times_told w (xs ++ ys) p) (times_told w xs p) (times_told w ys p) (times_append xs ys)
    where
      counted_by : (b : Bool) (i j k : ℕ) → i ≡ j + k → (if b then suc i else i) ≡ (if b then suc j else j) + k
      counted_by true i j k e = let s : suc i ≡ suc j + k = omega (arith, e) in s
      counted_by false i j k e = e

  abbrev counted : Bool → ℕ → ℕ
  counted b n = if b then suc n else n

  one_of_two : (b : Bool) (i j : ℕ) → i ≤ j → counted b i ≤ counted b (counted b j)
  one_of_two true i j h = omega (arith, h)
  one_of_two false i j h = h

  both_of_two : (b : Bool) (i j : ℕ) → i ≤ j → counted b (counted b i) ≤ counted b (counted b j)
  both_of_two true i j h = omega (arith, h)
  both_of_two false i j h = h

  addition_fits : (o : Option ℕ) (g : GenericId) (n : ℕ) (rest more : List Notice) → times_told w rest p ≤ times_told w more p
      → times_told w (of_replaced g o ++ MethodAdded g (record { 0 = n }) ∷ [] ++ rest) p
      ≤ times_told w (MethodRemoved g (record { 0 = 0 }) ∷ MethodAdded g (record { 0 = 0 }) ∷ more) p
  addition_fits None g n rest more h = one_of_two (has (w (Generic g)) p) (times_told w rest p) (times_told w more p) h
  addition_fits (Some m) g n rest more h = both_of_two (has (w (Generic g)) p) (times_told w rest p) (times_told w more p) h

  additions_fit : (ms : List Method) (t : Table) → times_told w (of_additions ms t) p ≤ times_told w (possible ms) p
  additions_fit [] t = omega arith
  additions_fit (m ∷ ms) t =
      addition_fits (find_method t m.generic.0 m.qualifiers m.specializers) m.generic (length t.methods)
      (of_additions ms (with_method m.generic.0 m t)) (possible ms) (additions_fit ms (with_method m.generic.0 m t))

  -- of the changes of an effect
  pub changes_fit : (rs : List Removal) (ds : List Definition) (ms : List Method) (t : Table)
      → times_told w (of_changes rs ds ms t) p ≤ times_told w (possible_changes rs ds ms t) p
  changes_fit rs ds ms t =
      let first = map of_removal rs ++ of_definitions ds t in
      let u = with_definitions ds (without_all rs t) in
      let i = times_append first (of_additions ms u) in
      let j = times_append first (possible ms) in
      omega (arith, i, j, additions_fit ms u)

  -- .. where something is told before it
  pub more_fit : (before : List Notice) (rs : List Removal) (ds : List Definition) (ms : List Method) (t : Table)
      → times_told w (before ++ of_changes rs ds ms t) p ≤ times_told w (before ++ possible_changes rs ds ms t) p
  more_fit before rs ds ms t =
      let i = times_append before (of_changes rs ds ms t) in
      let j = times_append before (possible_changes rs ds ms t) in
      omega (arith, i, j, changes_fit rs ds ms t)

  -- of a removal, which may find nothing
  pub removal_fits : (g m : ℕ) (t : Table)
      → times_told w (removal_notices g m t) p ≤ times_told w (MethodRemoved (record { 0 = g }) (record { 0 = m }) ∷ []) p
  removal_fits g m t = found (is_method_of g m t)
    where
      found : (b : Bool) → times_told w (if b then MethodRemoved (record { 0 = g }) (record { 0 = m }) ∷ [] else []) p
          ≤ times_told w (MethodRemoved (record { 0 = g }) (record { 0 = m }) ∷ []) p
      found true = omega arith
      found false = omega arith
