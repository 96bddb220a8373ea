-- Why a class is refused, and what is made of its accessors.
use Rattle.std.proofs.Common.{◌≡◌, ℕ, List, Bool, true, false, Option, Some, None, Result, Ok, Err, refl, ap, sym, ◌∙◌, subst}
use Rattle.std.specs.Prelude.{not, option_map}
use Rattle.clos_class.specs.Table.{refusal}
use Rattle.clos_forms.specs.declared.operator.FunctionName.TheVariants.{Symbol}
use Rattle.clos_generic.specs.Changes.{Changes}
use Rattle.clos_world.specs.declared.condition.Condition.{Condition}
use Rattle.clos_world.specs.declared.condition.Stop.{Stop}
use Rattle.clos_world.specs.declared.condition.Stop.TheVariants.{Refused, Storage}
use Rattle.clos_definition.specs.Accessor.{accessors_of, accessors_refusal}
use Rattle.clos_definition.specs.Refusal.{Allows, StopsFor, or_else, table_full, table_refusal, when}
use Rattle.clos_store.specs.Objects.{Objects, with_class as objects_with}
use Rattle.clos_store.specs.Store.{has_room_for}
use Rattle.lisp_data.specs.Value.{Val}
use Rattle.clos_syntax.specs.clos_defclass.declared.class.ClassDefinition.{ClassDefinition}
use Rattle.clos_watch.specs.declared.notice.Notice.{Notice}
use Rattle.clos_world.specs.Hearing.{Hearing, telling}
use Rattle.clos_world.specs.World.{State}
use Rattle.clos_definition.specs.Class.{accessors_concerned, class_changes, class_functions, class_methods, class_notices, class_number, class_refusal, class_removals, condition_for, noting, others_refusal, with_accessors, with_class}
use Rattle.clos_definition.specs.Effect.{changing, concerned, concerned_by, with_effect}
use Rattle.clos_definition.specs.declared.effect.Effect.{Effect}

-- An effect that was found in a state that is the same is that of the accessors.
pub effect_made : (d : ClassDefinition) (w u : State) (e : Effect) → u ≡ w → e.changes ≡ class_changes d u → e.methods.items ≡ class_methods d u
    → (told : List Notice) → with_effect e (noting told w) ≡ with_accessors d (noting told w)
effect_made d w u e q h g told =
    ap (λ c. changing c.removals c.definitions e.methods.items (noting told w)) (subst (λ x. e.changes ≡ class_changes d x) q h)
    ∙ ap (λ m. changing (class_removals d w) (class_functions d w) m (noting told w)) (subst (λ x. e.methods.items ≡ class_methods d x) q g)

pub concerned_made : (d : ClassDefinition) (w u : State) (e : Effect) → u ≡ w → e.changes ≡ class_changes d u → e.methods.items ≡ class_methods d u
    → concerned_by e w.generics ≡ accessors_concerned d w
concerned_made d w u e q h g =
    ap (λ c. concerned c.removals c.definitions e.methods.items w.generics) (subst (λ x. e.changes ≡ class_changes d x) q h)
    ∙ ap (λ m. concerned (class_removals d w) (class_functions d w) m w.generics) (subst (λ x. e.methods.items ≡ class_methods d x) q g)

-- ---- the first check that fails decides

pub first_stops : (o p : Option Condition) (stop : Stop) → StopsFor o stop → StopsFor (or_else o p) stop
first_stops (Some e) p (Refused c) h = h
first_stops None p (Refused c) h = absurd (cc h)
first_stops o p Storage h = tt

pub second_stops : (o p : Option Condition) (stop : Stop) → o ≡ None → StopsFor p stop → StopsFor (or_else o p) stop
second_stops o p stop e h = subst (λ x. StopsFor (or_else x p) stop) (sym e) h

pub neither : (o p : Option Condition) → o ≡ None → p ≡ None → or_else o p ≡ None
neither o p e h = ap (λ x. or_else x p) e ∙ h

-- .. after two that passed
pub third_stops : (o p q : Option Condition) (stop : Stop) → o ≡ None → p ≡ None → StopsFor q stop → StopsFor (or_else o (or_else p q)) stop
third_stops o p q stop e f h = second_stops o (or_else p q) stop e (second_stops p q stop f h)

pub third_allows : {A : Type 0} (o p q : Option Condition) (r : Result A Stop) → o ≡ None → p ≡ None → Allows q r → Allows (or_else o (or_else p q)) r
third_allows o p q (Ok x) e f h = neither o (or_else p q) e (neither p q f h)
third_allows o p q (Err stop) e f h = third_stops o p q stop e f h

module _ (d : ClassDefinition) (n : ℕ) (w : State) where
  pub class_stops : (stop : Stop) → StopsFor (option_map (condition_for d.name) (refusal w.classes.table d)) stop → StopsFor (class_refusal d n w) stop
  class_stops stop h = first_stops (option_map (condition_for d.name) (refusal w.classes.table d)) (others_refusal d n w) stop h

  module _ (a : option_map (condition_for d.name) (refusal w.classes.table d) ≡ None) where
    pub others_stop : (u : State) (m : ℕ) (stop : Stop) → u ≡ w → m ≡ n → StopsFor (others_refusal d m u) stop → StopsFor (class_refusal d n w) stop
    others_stop u m stop e q h =
        second_stops (option_map (condition_for d.name) (refusal w.classes.table d)) (others_refusal d n w) stop a
        (subst (λ i. StopsFor (others_refusal d i w) stop) q (subst (λ x. StopsFor (others_refusal d m x) stop) e h))

    pub none_stops : (u : State) (m : ℕ) → u ≡ w → m ≡ n → others_refusal d m u ≡ None → class_refusal d n w ≡ None
    none_stops u m e q h =
        neither (option_map (condition_for d.name) (refusal w.classes.table d)) (others_refusal d n w) a
        (subst (λ i. others_refusal d i w ≡ None) q (subst (λ x. others_refusal d m x ≡ None) e h))

-- the accessors of the class of this number, with these changes
module _ (d : ClassDefinition) (n k : ℕ) (w : State) (e : k ≡ class_number d w) where
  pub accessors_stop : (stop : Stop) → StopsFor (accessors_refusal k (class_functions d w) (accessors_of d.slots) w) stop → StopsFor (others_refusal d n w) stop
  accessors_stop stop h =
      first_stops (accessors_refusal (class_number d w) (class_functions d w) (accessors_of d.slots) w)
      (or_else (table_refusal (Symbol d.name) (class_changes d w) w) (when (not (has_room_for n w.store)) table_full)) stop
      (subst (λ i. StopsFor (accessors_refusal i (class_functions d w) (accessors_of d.slots) w) stop) e h)

  module _ (cs : Changes) (b : accessors_refusal k (class_functions d w) (accessors_of d.slots) w ≡ None) (h : cs ≡ class_changes d w) where
    passed : others_refusal d n w ≡ or_else (table_refusal (Symbol d.name) cs w) (when (not (has_room_for n w.store)) table_full)
    passed =
        ap (λ o. or_else o (or_else (table_refusal (Symbol d.name) (class_changes d w) w) (when (not (has_room_for n w.store)) table_full)))
        (ap (λ i. accessors_refusal i (class_functions d w) (accessors_of d.slots) w) (sym e) ∙ b)
        ∙ ap (λ x. or_else (table_refusal (Symbol d.name) x w) (when (not (has_room_for n w.store)) table_full)) (sym h)

    pub table_stops : (stop : Stop) → StopsFor (table_refusal (Symbol d.name) cs w) stop → StopsFor (others_refusal d n w) stop
    table_stops stop g =
        subst (λ o. StopsFor o stop) (sym passed) (first_stops (table_refusal (Symbol d.name) cs w) (when (not (has_room_for n w.store)) table_full) stop g)

    pub room_stops : (stop : Stop) → table_refusal (Symbol d.name) cs w ≡ None → StopsFor (when (not (has_room_for n w.store)) table_full) stop → StopsFor (others_refusal d n w) stop
    room_stops stop t g =
        subst (λ o. StopsFor o stop) (sym passed) (second_stops (table_refusal (Symbol d.name) cs w) (when (not (has_room_for n w.store)) table_full) stop t g)

    pub nothing_stops : table_refusal (Symbol d.name) cs w ≡ None → when (not (has_room_for n w.store)) table_full ≡ None → others_refusal d n w ≡ None
    nothing_stops t r = passed ∙ neither (table_refusal (Symbol d.name) cs w) (when (not (has_room_for n w.store)) table_full) t r

-- ---- what has passed once

of_first : (o p : Option Condition) → or_else o p ≡ None → o ≡ None
of_first None p h = refl
of_first (Some e) p h = absurd (cc h)

of_second : (o p : Option Condition) → or_else o p ≡ None → p ≡ None
of_second None p h = h
of_second (Some e) p h = absurd (cc h)

never_stops : (o p : Option Condition) (stop : Stop) → o ≡ None → StopsFor o stop → StopsFor p stop
never_stops o p (Refused c) e h = absurd (cc (e, h))
never_stops o p Storage e h = tt

-- the table of generic functions refuses nothing any more
pub reserve_stops : (d : ClassDefinition) (n : ℕ) (w : State) (cs : Changes) (p : Option Condition) (stop : Stop) → others_refusal d n w ≡ None → cs ≡ class_changes d w
    → StopsFor (table_refusal (Symbol d.name) cs w) stop → StopsFor p stop
reserve_stops d n w cs p stop a e h =
    never_stops (table_refusal (Symbol d.name) (class_changes d w) w) p stop
    (of_first (table_refusal (Symbol d.name) (class_changes d w) w) (when (not (has_room_for n w.store)) table_full)
    (of_second (accessors_refusal (class_number d w) (class_functions d w) (accessors_of d.slots) w)
    (or_else (table_refusal (Symbol d.name) (class_changes d w) w) (when (not (has_room_for n w.store)) table_full)) a))
    (subst (λ x. StopsFor (table_refusal (Symbol d.name) x w) stop) e h)

-- ---- what is allowed

no_refusal : {A : Type 0} (f : A → Condition) (o : Option A) → option_map f o ≡ None → o ≡ None
no_refusal f None h = refl
no_refusal f (Some e) h = absurd (cc h)

has_room : (b : Bool) → when (not b) table_full ≡ None → b ≡ true
has_room true h = refl
has_room false h = absurd (cc h)

-- the table of classes allows it, and there is room for its cells
pub allowed : (d : ClassDefinition) (n : ℕ) (w : State) → class_refusal d n w ≡ None → (refusal w.classes.table d ≡ None) × (has_room_for n w.store ≡ true)
allowed d n w h = (
  no_refusal (condition_for d.name) (refusal w.classes.table d) (of_first (option_map (condition_for d.name) (refusal w.classes.table d)) (others_refusal d n w) h),
  has_room (has_room_for n w.store)
      (of_second (table_refusal (Symbol d.name) (class_changes d w) w) (when (not (has_room_for n w.store)) table_full)
      (of_second (accessors_refusal (class_number d w) (class_functions d w) (accessors_of d.slots) w)
      (or_else (table_refusal (Symbol d.name) (class_changes d w) w) (when (not (has_room_for n w.store)) table_full))
      (of_second (option_map (condition_for d.name) (refusal w.classes.table d)) (others_refusal d n w) h))),
)

-- ---- what is made

-- the class is there, and it is told that it was defined again if it was there before
pub class_there : (d : ClassDefinition) (values : List (Option Val)) (w : State) (o : Objects) (h : Hearing) (told : List Notice)
    → o ≡ objects_with d values (record { classes = w.classes; contents = w.store }) → h ≡ telling told w.hearing → told ≡ class_notices d w
    → record w { classes = o.classes; store = o.contents; hearing = h } ≡ with_class d values (noting (class_notices d w) w)
class_there d values w o h told e g k =
    ap (λ x. record w { classes = x.classes; store = x.contents; hearing = h }) e
    ∙ ap (λ x. record (with_class d values w) { hearing = x }) (g ∙ ap (λ l. telling l w.hearing) k)
