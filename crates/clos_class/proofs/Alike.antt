-- What is told of a class where what its superclasses say stays the same.
use Rattle.std.proofs.Common.{◌≡◌, ℕ, ◌==◌, Bool, true, false, ◌||◌, true≢false, List, [], ◌∷◌, ◌++◌, Some, length, ◌≤◌, refl, ap, sym, subst, ◌∙◌}
use Rattle.std.specs.Prelude.{map, reverse, slice_get}
use Rattle.std.specs.Option.{option_map_or}
use Rattle.std.specs.List.{flat_map}
use Rattle.std.proofs.lemmas.Bool.{eq-eqb, eqb-true}
use Rattle.std.proofs.lemmas.List.{reverse-append}
use Rattle.std.proofs.lemmas.List.Folds.{list_any-append}
use Rattle.clos_precedence.specs.Precedence.{has}
use Rattle.clos_class.specs.declared.direct.ClassSlots.{ClassSlots}
use Rattle.clos_class.specs.declared.direct.DirectSlot.{DirectSlot}
use Rattle.clos_class.specs.declared.rows.Rows.{Rows}
use Rattle.clos_defclass.specs.declared.class.DefaultInitarg.{DefaultInitarg}
use Rattle.clos_class.specs.inner.Building.{slot_by}
use Rattle.clos_class.specs.inner.Keeping.{Kept, Tells, effective_if}
use Rattle.clos_class.specs.Slots.{Defaults, DirectSlots, Effective, called, distinct, first_allocation, first_initform, first_of_each, names}
use Rattle.clos_class.specs.SlotsView.{defaults, defaults_in, direct_slots, or_said, row_of, slots_in}
use Rattle.clos_class.specs.Table.{with_row}
use Rattle.clos_class.proofs.Built.{layout_by}
use Rattle.clos_class.proofs.Rowed.{Sees, at_row, same_defaults, same_slots, sees}

or_true : (a : Bool) → (a || true) ≡ true
or_true true = refl
or_true false = refl

or_swapped : (a b : Bool) → (a || (b || false)) ≡ (b || a)
or_swapped true true = refl
or_swapped true false = refl
or_swapped false true = refl
or_swapped false false = refl

-- the same members
has_turned : (l : List ℕ) (m : ℕ) → has (reverse l) m ≡ has l m
has_turned [] m = refl
has_turned (x ∷ l) m =
    ap (λ k. has k m) (reverse-append (x ∷ []) l)
    ∙ list_any-append (λ y. y == m) (reverse l) (x ∷ [])
    ∙ or_swapped (has (reverse l) m) (x == m)
    ∙ ap (λ b. (x == m) || b) (has_turned l m)

flat_alike : {X : Type 0} (f g : ℕ → List X) (l : List ℕ) → ((m : ℕ) → has l m ≡ true → f m ≡ g m) → flat_map f l ≡ flat_map g l
flat_alike f g [] e = refl
flat_alike f g (x ∷ l) e =
    ap (λ k. k ++ flat_map f l) (e x (ap (λ b. b || has l x) (eq-eqb x x refl)))
    ∙ ap (λ k. g x ++ k) (flat_alike f g l (λ m h. e m (ap (λ b. (x == m) || b) h ∙ or_true (x == m))))

abbrev made : List DirectSlot → List DirectSlot → List DefaultInitarg → Effective
made xs ys ds = record {
  layout = layout_by (λ n. first_allocation (called n xs)) (distinct (names ys));
  slots = map (slot_by (λ n. first_allocation (called n xs)) (λ n. distinct (flat_map (λ s. s.initargs) (called n xs))) (λ n. first_initform (called n xs))) (distinct (names ys));
  defaults = first_of_each (λ d. d.name) ds;
}

effective_alike : (of to : DirectSlots) (ds es : Defaults) (l : List ℕ) → flat_map of l ≡ flat_map to l → flat_map of (reverse l) ≡ flat_map to (reverse l) → flat_map ds l ≡ flat_map es l
    → effective_if of ds l ≡ effective_if to es l
effective_alike of to ds es [] e f g = refl
effective_alike of to ds es (x ∷ l) e f g = λ i. Some (made (e i) (f i) (g i))

told_alike : (of to : DirectSlots) (ds es : Defaults) (l : List ℕ) (k : Kept) → ((m : ℕ) → has l m ≡ true → of m ≡ to m) → ((m : ℕ) → has l m ≡ true → ds m ≡ es m) → Tells of ds l k → Tells to es l k
told_alike of to ds es l k e f t = record {
  kept = t.kept ∙ effective_alike of to ds es l (flat_alike of to l e) (flat_alike of to (reverse l) (λ m h. e m (sym (has_turned l m) ∙ h))) (flat_alike ds es l f);
}

other : (l : List ℕ) (n m : ℕ) (b : Bool) → has l n ≡ false → has l m ≡ true → (m == n) ≡ b → b ≡ false
other l n m true h k e = absurd (true≢false (sym k ∙ ap (has l) (eqb-true m n e) ∙ h))
other l n m false h k e = refl

stays : (rows : List ClassSlots) (n : ℕ) (row : ClassSlots) (l : List ℕ) → n ≤ length rows → has l n ≡ false → (m : ℕ) → has l m ≡ true → slice_get rows m ≡ slice_get (with_row rows n row) m
stays rows n row l b h m k = sym (at_row rows n m row b ∙ ap (λ a. or_said (Some row) a (slice_get rows m)) (other l n m (m == n) h k refl))

-- the class that is defined is not in the list, which stays
pub untouched : (rows : List ClassSlots) (n : ℕ) (row : ClassSlots) (l then : List ℕ) (k : Kept) → n ≤ length rows → has l n ≡ false → then ≡ l → Tells (direct_slots rows) (defaults rows) l k
    → Tells (direct_slots (with_row rows n row)) (defaults (with_row rows n row)) then k
untouched rows n row l then k b h e t =
    subst (λ v. Tells (direct_slots (with_row rows n row)) (defaults (with_row rows n row)) v k) (sym e)
    (told_alike (direct_slots rows) (direct_slots (with_row rows n row)) (defaults rows) (defaults (with_row rows n row)) l k
    (λ m g. ap (λ o. option_map_or (λ c. c.slots) o []) (stays rows n row l b h m g))
    (λ m g. ap (λ o. option_map_or (λ c. c.defaults) o []) (stays rows n row l b h m g))
    t)

-- what is found by what these say
pub seen : (r : Rows) (rows : List ClassSlots) (l then : List ℕ) (k : Kept) → Sees r rows → l ≡ then → Tells (slots_in r) (defaults_in r) l k → Tells (direct_slots rows) (defaults rows) then k
seen r rows l then k v e t =
    subst (λ u. Tells (direct_slots rows) (defaults rows) u k) e
    (subst (λ u. Tells u (defaults rows) l k) (same_slots r rows v) (subst (λ u. Tells (slots_in r) u l k) (same_defaults r rows v) t))

pub touched : (r : Rows) (rows : List ClassSlots) (n : ℕ) (row : ClassSlots) (l then : List ℕ) (k : Kept) → n ≤ length rows → ((m : ℕ) → row_of r m ≡ or_said (Some row) (m == n) (slice_get rows m)) → l ≡ then
    → Tells (slots_in r) (defaults_in r) l k → Tells (direct_slots (with_row rows n row)) (defaults (with_row rows n row)) then k
touched r rows n row l then k b v e t = seen r (with_row rows n row) l then k (sees r rows n row b v) e t

pub neither : (a b : Bool) → (a || b) ≡ false → (a ≡ false) × (b ≡ false)
neither true b h = absurd (true≢false h)
neither false b h = (refl, h)
