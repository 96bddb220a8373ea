-- What definition forms change is well made, and keeps the generic functions sound.
use Rattle.std.proofs.Common.{◌≡◌, ℕ, suc, Bool, true, false, List, [], ◌∷◌, ◌++◌, length, map, not, Option, Some, None, refl, ap, sym, subst, ◌∙◌, true≢false}
use Rattle.std.specs.Prelude.{◌||◌, drop, if◌then◌else◌, is_some, option_map}
use Rattle.std.specs.Option.{option_or}
use Rattle.std.proofs.lemmas.Option.{none-some}
use Rattle.lisp_data.specs.Value.{Val}
use Rattle.clos_forms.specs.declared.operator.FunctionName.{FunctionName}
use Rattle.clos_forms.specs.declared.operator.FunctionName.TheVariants.{Symbol}
use Rattle.clos_generic.specs.Changes.{Changes, changes_refusal}
use Rattle.clos_generic.specs.Fault.{Refusal}
use Rattle.clos_generic.specs.Held.{Held, reserved}
use Rattle.clos_generic.specs.Initial.{standard_options}
use Rattle.clos_generic.specs.Table.{Table, named, number, same_function, with_definition}
use Rattle.clos_generic.specs.declared.changes.Definition.{Definition}
use Rattle.clos_generic.specs.declared.changes.Removal.{Removal}
use Rattle.clos_method.specs.Shape.{made_by, shape_of}
use Rattle.clos_method.specs.declared.method.Method.{Method}
use Rattle.clos_method.specs.declared.origin.Origin.{Origin}
use Rattle.clos_method.specs.declared.origin.Origin.TheVariants.{Defmethod, MethodOption}
use Rattle.clos_method.specs.declared.shape.Shape.{Shape}
use Rattle.clos_syntax.specs.Laws.{IsSpecialized}
use Rattle.clos_syntax.specs.clos_defclass.declared.class.ClassDefinition.{ClassDefinition}
use Rattle.clos_syntax.specs.declared.generic.GenericDefinition.{GenericDefinition}
use Rattle.clos_syntax.specs.declared.method.MethodDefinition.{MethodDefinition}
use Rattle.clos_syntax.specs.declared.method.ParameterSpecializer.{ParameterSpecializer}
use Rattle.clos_syntax.specs.clos_defclass.declared.slot.Accessor.{Accessor}
use Rattle.clos_syntax.specs.clos_defclass.declared.slot.Accessor.TheVariants.{Reader, Writer}
use Rattle.clos_definition.specs.Accessor.{accessor_method, accessor_methods, accessor_shape, accessors_of, accessors_refusal, function_made, function_of, is_there, number_after, place_of, with_functions}
use Rattle.clos_definition.specs.declared.accessor.SlotAccessor.{SlotAccessor}
use Rattle.clos_definition.specs.declared.effect.Effect.{Effect}
use Rattle.clos_definition.specs.Class.{class_changes, class_functions, class_number, condition_for, others_refusal, class_methods, class_refusal, class_removals, with_defined_class}
use Rattle.clos_definition.specs.Effect.{AdditionsFit, AreApart, DefinitionsFit, IsReserved, IsWellMade, addition_of, changes_of, with_definitions, without_all}
use Rattle.clos_definition.specs.Generic.{IsWellRead, definition_of, earlier_methods, generic_refusal, initial_methods, methods_with, with_defined_generic}
use Rattle.clos_definition.specs.Method.{defined_method, function_for, method_changes, method_refusal, method_with, specializers_with, with_defined_method}
use Rattle.clos_definition.specs.Refusal.{or_else, table_full, table_refusal, told, when}
use Rattle.clos_definition.specs.Removal.{with_removed}
use Rattle.clos_class.specs.Table as classes
use Rattle.clos_class.specs.Table.{refusal}
use Rattle.clos_store.specs.Store.{has_room_for}
use Rattle.clos_world.specs.World.{State}
use Rattle.clos_world.specs.declared.condition.Condition.{Condition}
use Rattle.clos_generic.specs.Sound.{Each, IsOrderly, IsSound}
use Rattle.clos_generic.specs.Sound as sound
use Rattle.clos_definition.proofs.Fits.{changes_fit, changes_sound, named_new, named_still, one_apart, with_last}
use Rattle.clos_generic.proofs.Soundness.{standard_orderly, without_sound}

-- ---- where nothing is wrong

last_none : (a b : Option Condition) → or_else a b ≡ None → b ≡ None
last_none None b h = h
last_none (Some c) b h = absurd (none-some c (sym h))

first_none : (a b : Option Condition) → or_else a b ≡ None → a ≡ None
first_none None b h = refl
first_none (Some c) b h = h

not_told : (name : FunctionName) (o : Option Refusal) → option_map (told name) o ≡ None → o ≡ None
not_told name None h = refl
not_told name (Some r) h = absurd (none-some (told name r) (sym h))

-- ---- methods

as_many_specializers : (t : classes.Table) (ss : List ParameterSpecializer) (vs : List (Option Val))
    → length (specializers_with t ss vs) ≡ length ss
as_many_specializers t [] vs = refl
as_many_specializers t (s ∷ ss) vs = ap suc (as_many_specializers t ss (drop 1 vs))

has_own : (t : classes.Table) (g : ℕ) (origin : Origin) (m : MethodDefinition) (vs : List (Option Val)) → IsSpecialized m
    → sound.IsSpecialized (method_with t g origin m vs)
has_own t g origin m vs h = as_many_specializers t m.specializers vs ∙ h

abbrev OptionsFit : Definition → Type 0
OptionsFit d = IsOrderly d.options

sound_function : (b : Bool) (name : FunctionName) (s : Shape)
    → Each OptionsFit (if b then [] else (record { name = name; options = standard_options (made_by s) } ∷ []))
sound_function true name s = tt
sound_function false name s = (standard_orderly (made_by s), tt)

apart_function : (b : Bool) (t : Table) (name : FunctionName) (s : Shape)
    → AreApart t (without_all [] t) (if b then [] else (record { name = name; options = standard_options (made_by s) } ∷ []))
apart_function true t name s = tt
apart_function false t name s = one_apart t [] (record { name = name; options = standard_options (made_by s) })

pub method_sound : (name : FunctionName) (m : MethodDefinition) (vs : List (Option Val)) (w : State) → IsSpecialized m
    → IsSound w.generics
    → method_refusal name m (Some vs) w ≡ None → IsSound (with_defined_method name m vs w).generics
method_sound name m vs w h s none =
    changes_sound w.generics [] (function_for w.generics name (shape_of m.lambda_list)) (defined_method name m vs w ∷ []) s
    (sound_function (is_some (named w.generics name)) name (shape_of m.lambda_list))
    (has_own w.classes (number w.generics name) Defmethod m vs h, tt)
    (apart_function (is_some (named w.generics name)) w.generics name (shape_of m.lambda_list))
    (not_told name _ (last_none _ _ (last_none _ _ none)))

-- ---- generic functions

all_own : (t : classes.Table) (g : ℕ) (ms : List MethodDefinition) (vs : List (Option Val)) → Each IsSpecialized ms
    → Each sound.IsSpecialized (methods_with t g ms vs)
all_own t g [] vs h = tt
all_own t g (m ∷ ms) vs h = (has_own t g MethodOption m vs h.0, all_own t g ms (drop (length m.specializers) vs) h.1)

pub generic_sound : (d : GenericDefinition) (vs : List (Option Val)) (w : State) → IsWellRead d → IsSound w.generics
    → generic_refusal d (Some vs) w ≡ None → IsSound (with_defined_generic d vs w).generics
generic_sound d vs w h s none =
    let rs = earlier_methods w.generics (named w.generics d.name) in
    changes_sound w.generics rs (definition_of d ∷ []) (initial_methods d vs w) s (h.0, tt)
    (all_own w.classes (number w.generics d.name) d.methods vs h.1)
    (one_apart w.generics rs (definition_of d)) (not_told d.name _ (last_none _ _ none))

-- ---- classes: their accessors

own_accessor : (c g : ℕ) (slot : _) (a : Accessor) → sound.IsSpecialized (accessor_method c g (record { slot = slot; accessor = a }))
own_accessor c g slot (Reader name) = refl
own_accessor c g slot (Writer name) = refl

own_accessors : (c : ℕ) (t : Table) (ds : List Definition) (more : List SlotAccessor) → Each sound.IsSpecialized (accessor_methods c t ds more)
own_accessors c t ds [] = tt
own_accessors c t ds (a ∷ more) = (own_accessor c (number_after t ds (function_of a)) a.slot a.accessor, own_accessors c t ds more)

sound_end : (ds : List Definition) (d : Definition) → Each OptionsFit ds → IsOrderly d.options
    → Each OptionsFit (ds ++ d ∷ [])
sound_end [] d h k = (k, tt)
sound_end (e ∷ ds) d h k = (h.0, sound_end ds d h.1 k)

sound_next : (b : Bool) (ds : List Definition) (a : SlotAccessor) → Each OptionsFit ds
    → Each OptionsFit (if b then ds else ds ++ function_made a ∷ [])
sound_next true ds a h = h
sound_next false ds a h = sound_end ds (function_made a) h (standard_orderly (accessor_shape a.accessor))

sound_functions : (t : Table) (more : List SlotAccessor) (ds : List Definition) → Each OptionsFit ds
    → Each OptionsFit (with_functions t ds more)
sound_functions t [] ds h = h
sound_functions t (a ∷ more) ds h =
    sound_functions t more (if is_there t ds (function_of a) then ds else ds ++ function_made a ∷ [])
    (sound_next (is_there t ds (function_of a)) ds a h)

-- a name that no function has and none of these definitions is not found after them
abbrev Unknown : Table → Table → List Definition → Type 0
Unknown t now ds = (x : FunctionName) → named t x ≡ None → place_of x ds ≡ None → named (with_definitions ds now) x ≡ None

apart_end : (t now : Table) (ds : List Definition) (d : Definition) → AreApart t now ds
    → named (with_definitions ds now) d.name ≡ named t d.name → AreApart t now (ds ++ d ∷ [])
apart_end t now [] d a h = (h, tt)
apart_end t now (e ∷ ds) d a h = (a.0, apart_end t (with_definition e.name e.options now) ds d a.1 h)

with_end : (now : Table) (ds : List Definition) (d : Definition)
    → with_definitions (ds ++ d ∷ []) now ≡ with_definition d.name d.options (with_definitions ds now)
with_end now [] d = refl
with_end now (e ∷ ds) d = with_end (with_definition e.name e.options now) ds d

none_or : (o : Option ℕ) (b : Bool) (n : ℕ) → option_or o (if b then Some n else None) ≡ None → (o ≡ None) × (b ≡ false)
none_or None true n h = absurd (none-some n (sym h))
none_or None false n h = (refl, refl)
none_or (Some k) b n h = absurd (none-some k (sym h))

none_after : (o : Option ℕ) (b : Bool) (n : ℕ) → o ≡ None → b ≡ false → option_or o (if b then Some n else None) ≡ None
none_after o b n h k = ap (λ x. option_or x (if b then Some n else None)) h ∙ ap (λ c. if c then Some n else None) k

unknown_end : (t now : Table) (ds : List Definition) (d : Definition) → Unknown t now ds
    → named (with_definitions ds now) d.name ≡ None → Unknown t now (ds ++ d ∷ [])
unknown_end t now ds d u h x k l =
    let both = none_or (place_of x ds) (same_function d.name x) (length ds)
    (sym (with_last (λ e. same_function e.name x) ds d) ∙ l) in
    ap (λ y. named y x) (with_end now ds d) ∙ named_new (with_definitions ds now) d x h
    ∙ none_after (named (with_definitions ds now) x) (same_function d.name x) (length (with_definitions ds now).functions)
    (u x k both.0) both.1

not_some : (o : Option ℕ) → is_some o ≡ false → o ≡ None
not_some None h = refl
not_some (Some n) h = absurd (true≢false h)

neither : (a b : Bool) → (a || b) ≡ false → (a ≡ false) × (b ≡ false)
neither true b h = absurd (true≢false h)
neither false b h = (refl, h)

record Fresh (t now : Table) (ds : List Definition) : Type 0 where
  pub apart : AreApart t now ds
  pub unknown : Unknown t now ds

fresh_next : (t now : Table) (ds : List Definition) (a : SlotAccessor) (b : Bool) → is_there t ds (function_of a) ≡ b
    → Fresh t now ds
    → Fresh t now (if b then ds else ds ++ function_made a ∷ [])
fresh_next t now ds a true e f = f
fresh_next t now ds a false e f =
    let both = neither (is_some (named t (function_of a))) (is_some (place_of (function_of a) ds)) e in
    let new = not_some (named t (function_of a)) both.0 in
    let none = f.unknown (function_of a) new (not_some (place_of (function_of a) ds) both.1) in
    record {
      apart = apart_end t now ds (function_made a) f.apart (none ∙ sym new);
      unknown =
          unknown_end t now ds (function_made a) f.unknown none;
    }

fresh_functions : (t now : Table) (more : List SlotAccessor) (ds : List Definition) → Fresh t now ds
    → Fresh t now (with_functions t ds more)
fresh_functions t now [] ds f = f
fresh_functions t now (a ∷ more) ds f =
    fresh_functions t now more (if is_there t ds (function_of a) then ds else ds ++ function_made a ∷ [])
    (fresh_next t now ds a (is_there t ds (function_of a)) refl f)

changes_allowed : (d : ClassDefinition) (cells : ℕ) (w : State) → class_refusal d cells w ≡ None
    → changes_refusal w.generics (class_changes d w) ≡ None
changes_allowed d cells w none =
    let others = last_none (option_map (condition_for d.name) (refusal w.classes.table d)) (others_refusal d cells w) none in
    let table = last_none (accessors_refusal (class_number d w) (class_functions d w) (accessors_of d.slots) w)
    (or_else (table_refusal (Symbol d.name) (class_changes d w) w) (when (not (has_room_for cells w.store)) table_full)) others in
    not_told (Symbol d.name) (changes_refusal w.generics (class_changes d w))
    (first_none (table_refusal (Symbol d.name) (class_changes d w) w) (when (not (has_room_for cells w.store)) table_full) table)

pub class_sound : (d : ClassDefinition) (cells : ℕ) (vs : List (Option Val)) (w : State) → IsSound w.generics
    → class_refusal d cells w ≡ None
    → IsSound (with_defined_class d vs w).generics
class_sound d cells vs w s none =
    let rs = class_removals d w in
    changes_sound w.generics rs (class_functions d w) (class_methods d w) s
    (sound_functions w.generics (accessors_of d.slots) [] tt)
    (own_accessors (class_number d w) w.generics (class_functions d w) (accessors_of d.slots))
    (fresh_functions w.generics (without_all rs w.generics) (accessors_of d.slots) []
    (record { apart = tt; unknown = λ x h k. named_still rs w.generics x ∙ h })).apart
    (changes_allowed d cells w none)

-- ---- methods that are taken out

pub removal_sound : (g m : ℕ) (w : State) → IsSound w.generics → IsSound (with_removed g m w).generics
removal_sound g m w s = without_sound w.generics.functions w.generics.methods s g m

-- ---- effects that are well made

well_made : (e : Effect) (t : Table) (rs : List Removal) (ds : List Definition) (ms : List Method) → e.changes ≡ changes_of rs ds ms
    → e.methods.items ≡ ms → Each OptionsFit ds → Each sound.IsSpecialized ms → AreApart t (without_all rs t) ds → IsWellMade e t
well_made e t rs ds ms h k os own a = record {
  changes = h ∙ ap (changes_of rs ds) (sym k) ∙ ap (λ (x : Changes). changes_of x.removals x.definitions e.methods.items) (sym h);
  orderly = subst (λ (x : Changes). Each OptionsFit x.definitions) (sym h) os;
  specialized = subst (Each sound.IsSpecialized) (sym k) own;
  apart = subst (λ (x : Changes). AreApart t (without_all x.removals t) x.definitions) (sym h) a;
}

pub method_well_made : (e : Effect) (name : FunctionName) (m : MethodDefinition) (vs : List (Option Val)) (w : State) → IsSpecialized m
    → e.changes ≡ method_changes name m (Some vs) w → e.methods.items ≡ defined_method name m vs w ∷ [] → IsWellMade e w.generics
method_well_made e name m vs w own h k =
    well_made e w.generics [] (function_for w.generics name (shape_of m.lambda_list)) (defined_method name m vs w ∷ []) h k
    (sound_function (is_some (named w.generics name)) name (shape_of m.lambda_list))
    (has_own w.classes (number w.generics name) Defmethod m vs own, tt)
    (apart_function (is_some (named w.generics name)) w.generics name (shape_of m.lambda_list))

pub generic_well_made : (e : Effect) (d : GenericDefinition) (vs : List (Option Val)) (w : State) → IsWellRead d
    → e.changes ≡ changes_of (earlier_methods w.generics (named w.generics d.name)) (definition_of d ∷ []) (initial_methods d vs w)
    → e.methods.items ≡ initial_methods d vs w → IsWellMade e w.generics
generic_well_made e d vs w own h k =
    let rs = earlier_methods w.generics (named w.generics d.name) in
    well_made e w.generics rs (definition_of d ∷ []) (initial_methods d vs w) h k (own.0, tt)
    (all_own w.classes (number w.generics d.name) d.methods vs own.1) (one_apart w.generics rs (definition_of d))

pub class_well_made : (e : Effect) (d : ClassDefinition) (w : State) → e.changes ≡ class_changes d w → e.methods.items ≡ class_methods d w
    → IsWellMade e w.generics
class_well_made e d w h k =
    let rs = class_removals d w in
    well_made e w.generics rs (class_functions d w) (class_methods d w) h k
    (sound_functions w.generics (accessors_of d.slots) [] tt)
    (own_accessors (class_number d w) w.generics (class_functions d w) (accessors_of d.slots))
    (fresh_functions w.generics (without_all rs w.generics) (accessors_of d.slots) []
    (record { apart = tt; unknown = λ x h k. named_still rs w.generics x ∙ h })).apart

-- ---- effects that are reserved

numbers_added : (ms : List Method) → map (λ a. a.generic.0) (map addition_of ms) ≡ map (λ m. m.generic.0) ms
numbers_added [] = refl
numbers_added (m ∷ ms) = ap (λ l. m.generic.0 ∷ l) (numbers_added ms)

pub ready : (e : Effect) (t u : Held) → IsSound t.table → IsWellMade e t.table → changes_refusal t.table e.changes ≡ None
    → u ≡ reserved e.changes t → IsReserved e u
ready e t u s h none k =
    let rs = e.changes.removals in
    let ds = e.changes.definitions in
    let fit = changes_fit t.table rs ds e.methods.items s h.orderly h.specialized h.apart
    (ap (changes_refusal t.table) (sym h.changes) ∙ none) in
    let same : t.table ≡ u.table = sym (ap (λ x. x.table) k) in
    record {
      definitions = ap (λ x. x.definitions) k;
      additions = ap (λ x. x.additions) k ∙ ap (λ c. map (λ a. a.generic.0) c.additions) h.changes ∙ numbers_added e.methods.items;
      definitions_fit = subst (λ (x : Table). DefinitionsFit ds (without_all rs x)) same fit.0;
      additions_fit = subst (λ (x : Table). AdditionsFit e.methods.items (with_definitions ds (without_all rs x))) same fit.1;
    }
