-- What is kept stays what would be worked out, where each change drops what it concerns.
use Rattle.std.proofs.Common.{◌≡◌, ◌≢◌, inl, inr, ℕ, zero, suc, ◌+◌, ◌<◌, ◌≤◌, ◌==◌, Bool, true, false, not, ◌||◌, ◌&&◌, List, [], ◌∷◌, ◌++◌, length, length-append, Option, Some, None, refl, ap, subst, sym, ◌∙◌, true≢false, eqb-true, eq-eqb, arith}
use Rattle.std.specs.Prelude.{if◌then◌else◌, nat_eq, nat_lt, slice_get}
use Rattle.std.specs.List.{list_any}
use Rattle.std.proofs.lemmas.Bool.{cases_order, ltb-true}
use Rattle.std.proofs.lemmas.List.Folds.{list_any-append}
use Rattle.std.proofs.lemmas.Option.{none-some}
use Rattle.lisp_data.specs.Name.{Name, same_name}
use Rattle.lisp_data.specs.Numbers.{same_numbers}
use Rattle.clos_cache.specs.Cache.{Change, Drops, Kept, concerns, found, has_class, left_of, of_classes, of_combination, of_generic}
use Rattle.clos_cache.specs.Key as keys
use Rattle.clos_cache.specs.Key.{Key}
use Rattle.clos_cache.proofs.Places.{one_item}
use Rattle.clos_class.specs.Table as classes
use Rattle.clos_class.specs.Table.{with_definition as with_definition_of}
use Rattle.clos_class.specs.clos_defclass.declared.class.ClassDefinition.{ClassDefinition}
use Rattle.clos_comb.specs.Effective.{combined_for, effective}
use Rattle.clos_comb.specs.Left.{IsCalledAlike, IsLeft}
use Rattle.clos_generic.specs.TableView.{AreThere}
use Rattle.clos_comb.specs.Table as combinations
use Rattle.clos_comb.specs.Table.{name_of, with_combination}
use Rattle.clos_comb.specs.clos_combination.declared.combination.CombinationDefinition.{CombinationDefinition}
use Rattle.clos_comb.proofs.Left.{leaves_other_uses, leaves_others}
use Rattle.clos_forms.specs.declared.operator.FunctionName.{FunctionName}
use Rattle.clos_generic.specs.Table.{Function, Table, number, with_definition, with_method, without_method}
use Rattle.clos_generic.specs.declared.options.Options.{Options}
use Rattle.clos_hierarchy.specs.Classes.{Classes, Listing, lacking, broken, listed, all_above, are_defined, in_order, is_based, list_in, listing, listing_within, names_above, superclasses}
use Rattle.clos_hierarchy.specs.Table.{changed, changed_among, is_other}
use Rattle.clos_method.specs.Arguments.{Argument}
use Rattle.clos_method.specs.declared.method.Method.{Method}
use Rattle.clos_world.specs.Kept.{AreKnown, AreNow, ClassesKeep, FunctionsKeep, IsNow, combination_in}
use Rattle.clos_world.specs.declared.effective_method.EffectiveMethod.{EffectiveMethod}
use Rattle.clos_world.proofs.Methods.{left_added, left_defined, left_without, there_defined, there_with_method, there_without}

-- ---- what a drop leaves

left_alone : (b : Bool) (x k : Kept EffectiveMethod) → (if b then None else Some x) ≡ Some k → (b ≡ false) × (x ≡ k)
left_alone true x k h = absurd (none-some k h)
left_alone false x k h = (refl, one_item x k h)

left_there : (change : Change) (key : Key) (o : Option (Kept EffectiveMethod)) (k : Kept EffectiveMethod)
    → left_of change key o ≡ Some k → (o ≡ Some k) × (concerns change key k ≡ false)
left_there change key None k h = absurd (none-some k h)
left_there change key (Some x) k h =
    let l = left_alone (concerns change key x) x k h in
    (ap Some l.1, ap (concerns change key) (sym l.1) ∙ l.0)

-- what is kept after it was kept, and the change does not concern it
was_kept : (change : Change) (es es' : List (Key × Kept EffectiveMethod)) → Drops change es es' → (key : Key)
    (k : Kept EffectiveMethod) → found es' key ≡ Some k → (found es key ≡ Some k) × (concerns change key k ≡ false)
was_kept change es es' drops key k h = left_there change key (found es key) k (sym (drops key) ∙ h)

-- ---- changes of a generic function

module _ (class_table : classes.Table) (old new : Table) (g : ℕ) (alike : IsCalledAlike old new g) where
  known_before : (place : ℕ) (ks : List keys.Argument) (args : List Argument) → AreKnown class_table new g place ks args
      → AreKnown class_table old g place ks args
  known_before place [] [] h = h
  known_before place [] (a ∷ args) h = h
  known_before place (k ∷ ks) [] h = h
  known_before place (k ∷ ks) (a ∷ args) h = (
    record { list = h.0.list; object = h.0.object ∙ ap (λ b. if b then Some a.value else None) (alike.objects place a.value) },
    known_before (suc place) ks args h.1,
  )

now_still : (class_table : classes.Table) (c : combinations.Table) (old new : Table) (key : Key) (k : Kept EffectiveMethod)
    → IsCalledAlike old new key.generic → slice_get new.functions key.generic ≡ slice_get old.functions key.generic
    → IsNow class_table old c key k → IsNow class_table new c key k
now_still class_table c old new key k alike same h = record {
  calls = λ args known.
      let e = h.calls args (known_before class_table old new key.generic alike 0 key.arguments args known) in
      record { methods = e.methods ∙ sym (alike.methods args); outcome = e.outcome ∙ sym (alike.combined c args) };
  combination = h.combination ∙ sym (ap combination_in same);
}

-- all functions but this one are left as they were
stays : (g : ℕ) (old new : Table) (es es' : List (Key × Kept EffectiveMethod)) → Drops (of_generic g) es es'
    → (AreThere old.functions old.methods → AreThere new.functions new.methods) → ((i : ℕ) → i ≢ g → IsLeft old new i) → FunctionsKeep old es new es'
stays g old new es es' drops there left class_table c h = record {
  now = λ key k e.
      let was = was_kept (of_generic g) es es' drops key k e in
      let l = left key.generic (λ q. true≢false (sym (eq-eqb key.generic g q) ∙ was.1)) in
      now_still class_table c old new key k (leaves_others old new key.generic h.there l) l.function (h.now key k was.0);
  there = there h.there;
}

module _ (t : Table) (es es' : List (Key × Kept EffectiveMethod)) where
  pub removal_stays : (g m : ℕ) → Drops (of_generic g) es es' → FunctionsKeep t es (without_method g m t) es'
  removal_stays g m drops = stays g t (without_method g m t) es es' drops (there_without g m t) (left_without g m t)

  pub definition_stays : (name : FunctionName) (o : Options) → Drops (of_generic (number t name)) es es'
      → FunctionsKeep t es (with_definition name o t) es'
  definition_stays name o drops =
      stays (number t name) t (with_definition name o t) es es' drops (there_defined name o t) (left_defined name o t)

  pub addition_stays : (g : ℕ) (m : Method) → Drops (of_generic g) es es' → FunctionsKeep t es (with_method g m t) es'
  addition_stays g m drops = stays g t (with_method g m t) es es' drops (there_with_method g m t) (left_added g m t)

-- ---- definitions of a method combination

combined_still : (d : CombinationDefinition) (c : combinations.Table) (t : Table) (g : ℕ) (o : Option Function) (ms : List ℕ)
    → slice_get t.functions g ≡ o → same_name (name_of d) (combination_in o) ≡ false
    → effective (with_combination d c) t g ms ≡ effective c t g ms
combined_still d c t g None ms e h = ap (combined_for (with_combination d c) t.methods ms) e ∙ sym (ap (combined_for c t.methods ms) e)
combined_still d c t g (Some f) ms e h = leaves_other_uses d c t g f ms e h

pub combination_stays : (class_table : classes.Table) (t : Table) (c : combinations.Table) (d : CombinationDefinition)
    (es es' : List (Key × Kept EffectiveMethod)) → Drops (of_combination (name_of d)) es es' → AreNow class_table t c es
    → AreNow class_table t (with_combination d c) es'
combination_stays class_table t c d es es' drops h = record {
  now = λ key k e.
      let was = was_kept (of_combination (name_of d)) es es' drops key k e in
      let n = h.now key k was.0 in
      let other = ap (same_name (name_of d)) (sym n.combination) ∙ was.1 in
      record {
        calls = λ args known. let f = n.calls args known in record {
          methods = f.methods;
          outcome = f.outcome ∙ sym (combined_still d c t key.generic (slice_get t.functions key.generic) _ refl other);
        };
        combination = n.combination;
      };
  there = h.there;
}

-- ---- definitions of a class

neither : (a b : Bool) → (a || b) ≡ false → (a ≡ false) × (b ≡ false)
neither true b h = absurd (true≢false h)
neither false b h = (refl, h)

both_so : (a b : Bool) → (a && b) ≡ true → (a ≡ true) × (b ≡ true)
both_so true b h = (refl, h)
both_so false b h = absurd (true≢false (sym h))

one_list : (l m : List ℕ) → same_numbers l m ≡ true → l ≡ m
one_list [] [] h = refl
one_list [] (y ∷ ys) h = absurd (true≢false (sym h))
one_list (x ∷ xs) [] h = absurd (true≢false (sym h))
one_list (x ∷ xs) (y ∷ ys) h =
    let b = both_so (x == y) (same_numbers xs ys) h in
    ap (λ n. n ∷ xs) (eqb-true x y b.0) ∙ ap (λ l. y ∷ l) (one_list xs ys b.1)

not_other : (b : Bool) → not b ≡ false → b ≡ true
not_other true h = refl
not_other false h = absurd (true≢false h)

list_still : (a b : Listing) → is_other a b ≡ false → list_in b ≡ list_in a
list_still (listed l) (listed m) h = sym (one_list l m (not_other (same_numbers l m) h))
list_still (listed l) lacking h = absurd (true≢false h)
list_still (listed l) broken h = absurd (true≢false h)
list_still lacking (listed m) h = absurd (true≢false h)
list_still lacking lacking h = refl
list_still lacking broken h = refl
list_still broken (listed m) h = absurd (true≢false h)
list_still broken lacking h = refl
list_still broken broken h = refl

if_other : (b : Bool) (n : ℕ) → list_any (nat_eq n) (if b then n ∷ [] else []) ≡ false → b ≡ false
if_other true n h = absurd (true≢false (sym (eq-eqb n n refl) ∙ (neither (nat_eq n n) false h).0))
if_other false n h = refl

-- a class below this number that has not changed has the same list
unchanged_below : (k : ℕ) (of to : ℕ → Listing) (n : ℕ) → n < k → list_any (nat_eq n) (changed_among k of to) ≡ false
    → is_other (of n) (to n) ≡ false
unchanged_below zero of to n l h = absurd (omega (arith, l))
unchanged_below (suc k) of to n l h =
    let parts = neither _ _ (sym (list_any-append (nat_eq n) (changed_among k of to) (if is_other (of k) (to k) then k ∷ [] else [])) ∙ h) in
    elim (cases_order n k) [
      | inl e ↦ subst (λ j. list_any (nat_eq j) (if is_other (of k) (to k) then k ∷ [] else []) ≡ false → is_other (of j) (to j) ≡ false)
          (sym e) (if_other (is_other (of k) (to k)) k) parts.1
      | inr r ↦ elim r [ inl b ↦ unchanged_below k of to n b parts.0 | inr b ↦ absurd (omega (arith, l, b)) ]
    ]

-- what is no class lacks a list
not_based : (cs : Classes) (n : ℕ) (b : Bool) → nat_lt n (length cs.names) ≡ b → length cs.names ≤ n → is_based cs n ≡ false
not_based cs n true e h = absurd (omega (arith, ltb-true n (length cs.names) e, h))
not_based cs n false e h = ap (λ b. b && are_defined cs (names_above cs n)) e

lacks : (k : ℕ) (cs : Classes) (n : ℕ) → length cs.names ≤ n → list_in (listing_within k cs n) ≡ []
lacks zero cs n h = refl
lacks (suc k) cs n h =
    ap (λ b. list_in (if b then in_order (superclasses cs) n (all_above (λ m. listing_within k cs m) (superclasses cs n)) else lacking))
    (not_based cs n (nat_lt n (length cs.names)) refl h)

-- a class that has not changed has the same list
list_kept : (cs to : Classes) (n : ℕ) → length cs.names ≤ length to.names → list_any (nat_eq n) (changed cs to) ≡ false
    → list_in (listing to n) ≡ list_in (listing cs n)
list_kept cs to n m h =
    elim (cases_order n (length to.names)) [
      | inl e ↦ past (omega (arith, e))
      | inr r ↦ elim r [
        | inl b ↦ list_still (listing cs n) (listing to n) (unchanged_below (length to.names) (λ j. listing cs j) (λ j. listing to j) n b h)
        | inr b ↦ past (omega (arith, b))
      ]
    ] where
      past : length to.names ≤ n → list_in (listing to n) ≡ list_in (listing cs n)
      past k = lacks (length to.names + length to.names) to n k
          ∙ sym (lacks (length cs.names + length cs.names) cs n (omega (arith, k, m)))

module _ (old new : classes.Table) (more : length old.table.classes.names ≤ length new.table.classes.names) where
  known_as_before : (t : Table) (g place : ℕ) (ks : List keys.Argument) (args : List Argument)
      → has_class (changed old.table.classes new.table.classes) ks ≡ false → AreKnown new t g place ks args → AreKnown old t g place ks args
  known_as_before t g place [] [] n h = h
  known_as_before t g place [] (a ∷ args) n h = h
  known_as_before t g place (k ∷ ks) [] n h = h
  known_as_before t g place (k ∷ ks) (a ∷ args) n h =
      let parts = neither (list_any (nat_eq k.class) (changed old.table.classes new.table.classes)) _ n in (
        record { list = h.0.list ∙ list_kept old.table.classes new.table.classes k.class more parts.0; object = h.0.object },
        known_as_before t g (suc place) ks args parts.1 h.1,
      )

  class_stays : (es es' : List (Key × Kept EffectiveMethod)) → Drops (of_classes (changed old.table.classes new.table.classes)) es es'
      → ClassesKeep old es new es'
  class_stays es es' drops t c h = record {
    now = λ key k e.
        let was = was_kept (of_classes (changed old.table.classes new.table.classes)) es es' drops key k e in
        let n = h.now key k was.0 in
        record {
          calls = λ args known. let f = n.calls args (known_as_before t key.generic 0 key.arguments args was.1 known) in
              record { methods = f.methods; outcome = f.outcome };
          combination = n.combination;
        };
    there = h.there;
  }

more_by : (b : Bool) (cs : Classes) (name : Name) (above : List (List Name)) (last : List Name)
    → length cs.names
    ≤ length (if b then record cs { above = above } else record { names = cs.names ++ name ∷ []; above = cs.above ++ last ∷ [] }).names
more_by true cs name above last = omega arith
more_by false cs name above last = grind (arith, length-append)

-- no class goes
more_classes : (t : classes.Table) (d : ClassDefinition) (first : ℕ)
    → length t.table.classes.names ≤ length (with_definition_of t d first).table.classes.names
more_classes t d first = more_by _ t.table.classes d.name _ _

pub class_definition_stays : (t new : classes.Table) (d : ClassDefinition) (first : ℕ) (es es' : List (Key × Kept EffectiveMethod))
    → new ≡ with_definition_of t d first → Drops (of_classes (changed t.table.classes new.table.classes)) es es'
    → ClassesKeep t es new es'
class_definition_stays t new d first es es' e drops =
    class_stays t new (subst (λ (x : classes.Table). length t.table.classes.names ≤ length x.table.classes.names) (sym e) (more_classes t d first)) es es' drops
