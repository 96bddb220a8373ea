-- In each state that a session comes to, the system's generic functions stand with their methods.
use Rattle.std.proofs.Common.{◌≡◌, ℕ, zero, suc, ◌==◌, Bool, true, false, not, ◌&&◌, List, [], ◌∷◌, ◌++◌, Option, Some, None, map, length, slice_get, eqb-true, refl, ap, sym, subst, ◌∙◌}
use Rattle.std.proofs.lemmas.Option.{slice_get_within}
use Rattle.std.specs.List.{find, list_all}
use Rattle.std.specs.Prelude.{⊤, option_map, if◌then◌else◌}
use Rattle.lisp_data.specs.Value.{Val}
use Rattle.clos_forms.specs.declared.operator.FunctionName.{FunctionName}
use Rattle.clos_forms.specs.declared.operator.FunctionName.TheVariants.{Symbol}
use Rattle.clos_generic.proofs.Kept.{got_before}
use Rattle.clos_generic.specs.Changes.{Changes, all_congruent, all_supported, changes_refusal, closed_refusal, has_open, is_supported, removals_refusal, too_many}
use Rattle.clos_generic.specs.Fault.{Refusal, incongruent, is_system, or_else, removal_refusal, table_limit, unsupported, when}
use Rattle.clos_generic.specs.Initial as begun
use Rattle.clos_generic.specs.Initial.{system_generic}
use Rattle.clos_generic.specs.Sound.{Each}
use Rattle.clos_generic.specs.Table.{Function, Table, added, find_method, is_alike_at, is_alike_in, methods_in, methods_of, named, redefined, with_changed, with_definition, with_method, without, without_method}
use Rattle.clos_generic.specs.Table as of_functions
use Rattle.clos_generic.specs.declared.changes.Definition.{Definition}
use Rattle.clos_generic.specs.declared.changes.Removal.{Removal}
use Rattle.clos_generic.specs.declared.options.Options.{Options}
use Rattle.clos_method.specs.Method.{is_alike, system_method}
use Rattle.clos_method.specs.Shape.{shape_of}
use Rattle.clos_method.specs.System.{system_number}
use Rattle.clos_method.specs.declared.method.Method.{Method}
use Rattle.clos_method.specs.declared.system.SystemFunction.{SystemFunction}
use Rattle.clos_method.specs.declared.system.SystemFunction.TheVariants.{InitializeInstance, ReinitializeInstance, SharedInitialize, UpdateInstanceForRedefinedClass, UpdateInstanceForDifferentClass, SlotUnbound, SlotMissing, NoApplicableMethod, NoNextMethod}
use Rattle.clos_syntax.specs.clos_defclass.declared.class.ClassDefinition.{ClassDefinition}
use Rattle.clos_syntax.specs.declared.generic.GenericDefinition.{GenericDefinition}
use Rattle.clos_syntax.specs.declared.method.MethodDefinition.{MethodDefinition}
use Rattle.clos_top.specs.declared.top.Top.{Top}
use Rattle.clos_session.specs.clos_world.Definitions.{Same}
use Rattle.clos_session.specs.clos_world.World.{State}
use Rattle.clos_session.specs.clos_world.declared.limits.Limits.{Limits}
use Rattle.clos_session.specs.clos_definition_forms.clos_definition.Accessor.{accessors_of, accessors_refusal}
use Rattle.clos_session.specs.clos_definition_forms.clos_definition.Class.{class_changes, class_functions, class_methods, class_number, class_refusal, class_removals, others_refusal, with_defined_class}
use Rattle.clos_session.specs.clos_definition_forms.clos_definition.Effect.{addition_of, changed, changes_of, with_definitions, with_methods, without_all}
use Rattle.clos_session.specs.clos_definition_forms.clos_definition.Generic.{definition_of, earlier_methods, generic_changes, generic_refusal, initial_methods, names_refusal, with_defined_generic}
use Rattle.clos_session.specs.clos_definition_forms.clos_definition.Method.{defined_method, function_for, method_changes, method_refusal, specializers_refusal, with_defined_method}
use Rattle.clos_session.specs.clos_definition_forms.clos_definition.Refusal.{table_refusal, taken_refusal, told}
use Rattle.clos_laws.specs.System.{IsOwn, Stands, SystemFunctionsStand}
use Rattle.clos_laws.proofs.Refusals.{first_none as first_none_of, second_none as second_none_of}
use Rattle.clos_laws.proofs.Sessions.{Stays, StaysWith, always, by_kind}

-- ---- numbers

own_number : (f : SystemFunction) → is_system (Some (system_number f)) ≡ true
own_number InitializeInstance = refl
own_number ReinitializeInstance = refl
own_number SharedInitialize = refl
own_number UpdateInstanceForRedefinedClass = refl
own_number UpdateInstanceForDifferentClass = refl
own_number SlotUnbound = refl
own_number SlotMissing = refl
own_number NoApplicableMethod = refl
own_number NoNextMethod = refl

other_by : (f : SystemFunction) (m : ℕ) (b : Bool) → (system_number f == m) ≡ b → is_system (Some m) ≡ false → b ≡ false
other_by f m true e h =
    let p : is_system (Some m) ≡ true = subst (λ n. is_system (Some n) ≡ true) (eqb-true (system_number f) m e) (own_number f) in cc
other_by f m false e h = refl

other_number : (f : SystemFunction) (m : ℕ) → is_system (Some m) ≡ false → (system_number f == m) ≡ false
other_number f m h = other_by f m (system_number f == m) refl h

-- ---- the functions of a table

-- what a function is after one of these functions was changed
still_there : (P : Function → Type 0) (change : Function → Function) (g i : ℕ) (fs : List Function) (f : Function) → slice_get fs i ≡ Some f → P f
    → (g ≡ i → P (change f)) → (function : Function) × (slice_get (with_changed change g fs) i ≡ Some function) × P function
still_there P change g i [] f e p h = cc
still_there P change zero zero (x ∷ xs) f e p h = let q : x ≡ f = cc in (change x, refl, subst (λ y. P (change y)) (sym q) (h refl))
still_there P change zero (suc i) (x ∷ xs) f e p h = (f, e, p)
still_there P change (suc g) zero (x ∷ xs) f e p h = (f, e, p)
still_there P change (suc g) (suc i) (x ∷ xs) f e p h = still_there P change g i xs f e p (λ q. h (ap suc q))

without_others : (p : ℕ → Bool) (n : ℕ) (ms others : List ℕ) → ms ≡ n ∷ others → p n ≡ false → without p ms ≡ n ∷ without p others
without_others p n ms others e h = ap (without p) e ∙ ap (λ b. if b then others else n ∷ without p others) h

-- ---- one change

method_gone : (t : Table) (f : SystemFunction) (g m : ℕ) → is_system (Some m) ≡ false → Stands t f → Stands (without_method g m t) f
method_gone t f g m h s = record {
  own = still_there (IsOwn f) _ g (system_number f) t.functions s.own.0 s.own.1 s.own.2
      (λ e. (
        s.own.2.0,
        without (λ n. n == m) s.own.2.1,
        without_others (λ n. n == m) (system_number f) s.own.0.methods s.own.2.1 s.own.2.2 (other_number f m h),
      ));
  method = s.method;
}

defined_so : (f : SystemFunction) (o : Option ℕ) (name : FunctionName) (options : Options) (fs : List Function) (function : Function)
    → slice_get fs (system_number f) ≡ Some function → IsOwn f function
    → (found : Function) × (slice_get (of_functions.defined_at o name options fs) (system_number f) ≡ Some found) × IsOwn f found
defined_so f None name options fs function e h =
    (function, got_before fs _ (system_number f) (slice_get_within fs (system_number f) function e) ∙ e, h)
defined_so f (Some g) name options fs function e h =
    still_there (IsOwn f) (redefined options) g (system_number f) fs function e h (λ q. h)

function_defined : (t : Table) (f : SystemFunction) (d : Definition) → Stands t f → Stands (with_definition d.name d.options t) f
function_defined t f d s = record {
  own = defined_so f (named t d.name) d.name d.options t.functions s.own.0 s.own.1 s.own.2;
  method = s.method;
}

-- a method that comes does not take its place
abbrev Spares : SystemFunction → Method → Type 0
Spares f m = m.generic.0 ≡ system_number f → is_alike (system_method f) m.qualifiers m.specializers ≡ false

method_come : (t : Table) (f : SystemFunction) (m : Method) → Spares f m → Stands t f → Stands (with_method m.generic.0 m t) f
method_come t f m h s = record {
  own = still_there (IsOwn f) _ m.generic.0 (system_number f) t.functions s.own.0 s.own.1 s.own.2
      (λ e. (
        s.own.2.0,
        without (is_alike_at t.methods m.qualifiers m.specializers) s.own.2.1 ++ length t.methods ∷ [],
        ap (λ ms. ms ++ length t.methods ∷ [])
            (without_others (is_alike_at t.methods m.qualifiers m.specializers) (system_number f) s.own.0.methods s.own.2.1 s.own.2.2
            (ap (is_alike_in m.qualifiers m.specializers) s.method ∙ h e)),
      ));
  method = got_before t.methods m (system_number f) (slice_get_within t.methods (system_number f) (system_method f) s.method) ∙ s.method;
}

-- ---- all changes of a form

abbrev AreOthers : List Removal → Type 0
AreOthers rs = Each (λ r. is_system (Some r.method.0) ≡ false) rs

methods_gone : (t : Table) (f : SystemFunction) (rs : List Removal) → AreOthers rs → Stands t f → Stands (without_all rs t) f
methods_gone t f [] h s = s
methods_gone t f (r ∷ rs) h s =
    methods_gone (without_method r.generic.0 r.method.0 t) f rs h.1 (method_gone t f r.generic.0 r.method.0 h.0 s)

functions_defined : (t : Table) (f : SystemFunction) (ds : List Definition) → Stands t f → Stands (with_definitions ds t) f
functions_defined t f [] s = s
functions_defined t f (d ∷ ds) s = functions_defined (with_definition d.name d.options t) f ds (function_defined t f d s)

methods_come : (t : Table) (f : SystemFunction) (ms : List Method) → Each (Spares f) ms → Stands t f → Stands (with_methods ms t) f
methods_come t f [] h s = s
methods_come t f (m ∷ ms) h s = methods_come (with_method m.generic.0 m t) f ms h.1 (method_come t f m h.0 s)

changes_made : (t : Table) (f : SystemFunction) (rs : List Removal) (ds : List Definition) (ms : List Method) → AreOthers rs → Each (Spares f) ms
    → Stands t f → Stands (changed rs ds ms t) f
changes_made t f rs ds ms h g s =
    methods_come (with_definitions ds (without_all rs t)) f ms g (functions_defined (without_all rs t) f ds (methods_gone t f rs h s))

-- ---- what is not refused

first_none : (a b : Option Refusal) → or_else a b ≡ None → a ≡ None
first_none None b h = refl
first_none (Some r) b h = cc

second_none : (a b : Option Refusal) → or_else a b ≡ None → b ≡ None
second_none None b h = h
second_none (Some r) b h = cc

not_when : (b : Bool) (r : Refusal) → when b r ≡ None → b ≡ false
not_when true r h = cc
not_when false r h = refl

not_not : (b : Bool) → not b ≡ false → b ≡ true
not_not true h = refl
not_not false h = cc

both_true : (a b : Bool) → (a && b) ≡ true → (a ≡ true) × (b ≡ true)
both_true true b h = (refl, h)
both_true false b h = cc

others_removed : (t : Table) (rs : List Removal) → removals_refusal t rs ≡ None → AreOthers rs
others_removed t [] h = tt
others_removed t (r ∷ rs) h =
    let own : removal_refusal t r.generic.0 r.method.0 ≡ None = first_none (removal_refusal t r.generic.0 r.method.0) (removals_refusal t rs) h in (
      not_when (is_system (Some r.method.0)) unsupported (first_none (when (is_system (Some r.method.0)) unsupported) _ own),
      others_removed t rs (second_none (removal_refusal t r.generic.0 r.method.0) (removals_refusal t rs) h),
    )

first_found : (p : ℕ → Bool) (n : ℕ) (ms others : List ℕ) → ms ≡ n ∷ others → p n ≡ true → find p ms ≡ Some n
first_found p n ms others e h = ap (find p) e ∙ ap (λ b. if b then Some n else find p others) h

spared_by : (t : Table) (f : SystemFunction) (m : Method) (b : Bool) → Stands t f
    → not (is_system (find_method t m.generic.0 m.qualifiers m.specializers)) ≡ true → m.generic.0 ≡ system_number f
    → is_alike (system_method f) m.qualifiers m.specializers ≡ b → b ≡ false
spared_by t f m false s h e a = refl
spared_by t f m true s h e a =
    let own : methods_of t (system_number f) ≡ system_number f ∷ s.own.2.1 = ap methods_in s.own.1 ∙ s.own.2.2 in
    let alike : is_alike_at t.methods m.qualifiers m.specializers (system_number f) ≡ true = ap (is_alike_in m.qualifiers m.specializers) s.method ∙ a in
    let found : find_method t (system_number f) m.qualifiers m.specializers ≡ Some (system_number f) =
    first_found (is_alike_at t.methods m.qualifiers m.specializers) (system_number f) (methods_of t (system_number f)) s.own.2.1 own alike in
    let of : find_method t m.generic.0 m.qualifiers m.specializers ≡ Some (system_number f) =
    ap (λ g. find_method t g m.qualifiers m.specializers) e ∙ found in
    let p : is_system (find_method t m.generic.0 m.qualifiers m.specializers) ≡ true = ap is_system of ∙ own_number f in cc

all_spared : (t : Table) (f : SystemFunction) (ms : List Method) → Stands t f
    → list_all (λ a. is_supported t a.generic.0 a.likeness) (map addition_of ms) ≡ true → Each (Spares f) ms
all_spared t f [] s h = tt
all_spared t f (m ∷ ms) s h =
    let p = both_true (is_supported t m.generic.0 (addition_of m).likeness) (list_all (λ a. is_supported t a.generic.0 a.likeness) (map addition_of ms)) h in
    (λ e. spared_by t f m (is_alike (system_method f) m.qualifiers m.specializers) s (both_true _ _ p.0).1 e refl, all_spared t f ms s p.1)

none_open : (ms : List Method) → has_open (map addition_of ms) ≡ false
none_open [] = refl
none_open (m ∷ ms) = none_open ms

-- where the table refuses nothing of what a form changes, the system's functions stand after it
stands_after : (t : Table) (f : SystemFunction) (rs : List Removal) (ds : List Definition) (ms : List Method)
    → changes_refusal t (changes_of rs ds ms) ≡ None → Stands t f → Stands (changed rs ds ms t) f
stands_after t f rs ds ms none s =
    let cs : Changes = changes_of rs ds ms in
    let closed : closed_refusal t cs ≡ None =
    subst (λ b. (if b then None else closed_refusal t cs) ≡ None) (none_open ms)
    (second_none (when (not (all_congruent t cs)) incongruent) (if has_open cs.additions then None else closed_refusal t cs) none) in
    let rest : or_else (when (not (all_supported t cs)) unsupported) (when (too_many t cs) table_limit) ≡ None =
    second_none (removals_refusal t rs) (or_else (when (not (all_supported t cs)) unsupported) (when (too_many t cs) table_limit)) closed in
    let supported : all_supported t cs ≡ true =
    not_not (all_supported t cs) (not_when (not (all_supported t cs)) unsupported (first_none (when (not (all_supported t cs)) unsupported) (when (too_many t cs) table_limit) rest)) in
    changes_made t f rs ds ms
    (others_removed t rs (first_none (removals_refusal t rs) (or_else (when (not (all_supported t cs)) unsupported) (when (too_many t cs) table_limit)) closed))
    (all_spared t f ms s
    (both_true (list_all (λ d. not (is_system (named t d.name))) ds) (list_all (λ a. is_supported t a.generic.0 a.likeness) (map addition_of ms)) supported).1) s

-- ---- forms

none_refused : (name : FunctionName) (o : Option Refusal) → option_map (told name) o ≡ None → o ≡ None
none_refused name None h = refl
none_refused name (Some r) h = cc

abbrev AllStand : State → Type 0
AllStand w = (f : SystemFunction) → Stands w.generics f

same_stand : (w u : State) → Same w u → AllStand w → AllStand u
same_stand w u h s = subst (λ t. (f : SystemFunction) → Stands t f) (sym h.1) s

stand_stays : Stays AllStand
stand_stays = record {
  same = same_stand;
  combination = λ d u h. h;
  change = λ c m n u h. h;
  removal = λ g m u own h f. method_gone u.generics f g m own (h f);
}

class_stands : (d : ClassDefinition) (vs : List (Option Val)) (w : State) → class_refusal d (length vs) w ≡ None → AllStand w
    → AllStand (with_defined_class d vs w)
class_stands d vs w none s f =
    let others : others_refusal d (length vs) w ≡ None = second_none_of _ (others_refusal d (length vs) w) none in
    let table : table_refusal (Symbol d.name) (class_changes d w) w ≡ None =
    first_none_of (table_refusal (Symbol d.name) (class_changes d w) w) _
    (second_none_of (accessors_refusal (class_number d w) (class_functions d w) (accessors_of d.slots) w) _ others) in
    stands_after w.generics f (class_removals d w) (class_functions d w) (class_methods d w)
    (none_refused (Symbol d.name) (changes_refusal w.generics (class_changes d w)) table) (s f)

generic_stands : (d : GenericDefinition) (vs : List (Option Val)) (w : State) → generic_refusal d (Some vs) w ≡ None → AllStand w
    → AllStand (with_defined_generic d vs w)
generic_stands d vs w none s f =
    let table : table_refusal d.name (generic_changes d (Some vs) w) w ≡ None = second_none_of (names_refusal d w) _ none in
    stands_after w.generics f (earlier_methods w.generics (named w.generics d.name)) (definition_of d ∷ []) (initial_methods d vs w)
    (none_refused d.name (changes_refusal w.generics (generic_changes d (Some vs) w)) table) (s f)

method_stands : (name : FunctionName) (m : MethodDefinition) (vs : List (Option Val)) (w : State) → method_refusal name m (Some vs) w ≡ None → AllStand w
    → AllStand (with_defined_method name m vs w)
method_stands name m vs w none s f =
    let table : table_refusal name (method_changes name m (Some vs) w) w ≡ None =
    second_none_of (specializers_refusal m.specializers w) _ (second_none_of (taken_refusal name w) _ none) in
    stands_after w.generics f [] (function_for w.generics name (shape_of m.lambda_list)) (defined_method name m vs w ∷ [])
    (none_refused name (changes_refusal w.generics (method_changes name m (Some vs) w)) table) (s f)

stays_with : (top : Top) → StaysWith AllStand top
stays_with top = by_kind AllStand (λ t. ⊤)
    (λ d h vs u none s. class_stands d vs u none s) (λ d h vs u none s. generic_stands d vs u none s)
    (λ name m h vs u none s. method_stands name m vs u none s) (λ f h name u s. (s, s)) top tt

-- ---- sessions

first_stand : (limits : Limits) (f : SystemFunction) → Stands (begun.initial limits.generics limits.methods) f
first_stand limits InitializeInstance = record { own = (system_generic InitializeInstance, refl, (refl, [], refl)); method = refl }
first_stand limits ReinitializeInstance = record { own = (system_generic ReinitializeInstance, refl, (refl, [], refl)); method = refl }
first_stand limits SharedInitialize = record { own = (system_generic SharedInitialize, refl, (refl, [], refl)); method = refl }
first_stand limits UpdateInstanceForRedefinedClass =
    record { own = (system_generic UpdateInstanceForRedefinedClass, refl, (refl, [], refl)); method = refl }
first_stand limits UpdateInstanceForDifferentClass =
    record { own = (system_generic UpdateInstanceForDifferentClass, refl, (refl, [], refl)); method = refl }
first_stand limits SlotUnbound = record { own = (system_generic SlotUnbound, refl, (refl, [], refl)); method = refl }
first_stand limits SlotMissing = record { own = (system_generic SlotMissing, refl, (refl, [], refl)); method = refl }
first_stand limits NoApplicableMethod = record { own = (system_generic NoApplicableMethod, refl, (refl, [], refl)); method = refl }
first_stand limits NoNextMethod = record { own = (system_generic NoNextMethod, refl, (refl, [], refl)); method = refl }

pub system_functions_stand : SystemFunctionsStand
system_functions_stand limits names w u r same =
    same_stand w u same (always AllStand stand_stays (λ d top e. stays_with top) limits names (first_stand limits) w r)
