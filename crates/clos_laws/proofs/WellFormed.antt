-- The forms that definitions keep are those that were read, and so well formed.
use Rattle.std.proofs.Common.{◌≡◌, ℕ, zero, suc, Bool, true, false, List, [], ◌∷◌, ◌++◌, Option, Some, None, Ok, length, map, refl, sym, subst, ◌∙◌}
use Rattle.std.specs.Prelude.{if◌then◌else◌, nat_lt, replicate, slice_set}
use Rattle.lisp_data.specs.Datum.{Dat}
use Rattle.lisp_data.specs.Name.{Name, same_name}
use Rattle.lisp_data.specs.Value.{Val}
use Rattle.lisp_data.specs.declared.ids.CellId.{CellId}
use Rattle.clos_generic.specs.Sound.{Each}
use Rattle.clos_generic.specs.Table.{Table, named, number, with_definition, with_method, without_method}
use Rattle.clos_generic.specs.declared.changes.Definition.{Definition}
use Rattle.clos_generic.specs.declared.changes.Removal.{Removal}
use Rattle.clos_generic.proofs.Members.{each_of}
use Rattle.clos_method.specs.Method.{system_method}
use Rattle.clos_method.specs.System.{system_functions}
use Rattle.clos_session.specs.clos_world.clos_hierarchy.Initial.{predefined}
use Rattle.clos_syntax.specs.clos_defclass.declared.slot.Accessor.TheVariants.{Reader, Writer}
use Rattle.clos_method.specs.declared.method.Method.{Method}
use Rattle.clos_session.specs.clos_definition_forms.clos_definition.declared.accessor.SlotAccessor.{SlotAccessor}
use Rattle.clos_session.specs.clos_definition_forms.clos_definition.Accessor.{accessor_body, accessor_method, accessors_of, function_of, number_after}
use Rattle.clos_session.specs.clos_definition_forms.clos_definition.Class.{class_functions, class_methods, class_notices, class_number, class_removals, noting, with_accessors, with_defined_class}
use Rattle.clos_session.specs.clos_definition_forms.clos_definition.Effect.{changed, changing, with_definitions, with_methods, without_all}
use Rattle.clos_session.specs.clos_definition_forms.clos_definition.Generic.{definition_of, earlier_methods, initial_methods, methods_with}
use Rattle.clos_session.specs.clos_definition_forms.clos_definition.Method.{defined_method, function_for}
use Rattle.clos_session.specs.clos_world.Functions.{Named, with_function}
use Rattle.clos_session.specs.clos_world.World.{State}
use Rattle.clos_session.specs.clos_world.clos_class.Table as classes
use Rattle.clos_session.specs.clos_world.clos_class.SlotsView.{direct_slot, says_nothing}
use Rattle.clos_session.specs.clos_world.clos_class.declared.direct.ClassSlots.{ClassSlots}
use Rattle.clos_session.specs.clos_world.declared.functions.Function.{Function}
use Rattle.clos_session.specs.clos_world.declared.limits.Limits.{Limits}
use Rattle.clos_session.specs.clos_world.Initial.{initial}
use Rattle.clos_syntax.specs.WellFormed.{HasInit, OfDefault, OfMethod, OfSlot}
use Rattle.clos_syntax.specs.clos_defclass.declared.class.ClassDefinition.{ClassDefinition}
use Rattle.clos_syntax.specs.declared.method.MethodDefinition.{MethodDefinition}
use Rattle.clos_syntax.specs.clos_defclass.declared.slot.SlotSpecifier.{SlotSpecifier}
use Rattle.clos_method.specs.Shape.{shape_of}
use Rattle.clos_top.specs.Top.{any_top, has_method, top_of}
use Rattle.clos_top.specs.WellFormed as top_forms
use Rattle.clos_top.specs.declared.top.Top.{Top}
use Rattle.clos_top.proofs.Cases.{given_so}
use Rattle.clos_top.proofs.WellFormed.{well_formed_cases}
use Rattle.std.proofs.lemmas.Option.{none-some}
use Rattle.clos_form_laws.specs.Kept.{AreWellFormed, OfClass, OfFunction, OfMethodBody}
use Rattle.clos_form_laws.proofs.Evaluated.{other_forms_are_no_matter}
use Rattle.clos_form_laws.proofs.Kept.{HasBody, same_well}
use Rattle.clos_form_laws.proofs.Lists.{each_append, each_map}
use Rattle.clos_laws.specs.WellFormed.{EvaluatedFormsAreWellFormed, KeptFormsAreWellFormed}
use Rattle.clos_laws.proofs.Sessions.{Stays, StaysWith, always, by_kind, defined}

-- ---- lists

each_set : {X : Type 0} (P : X → Type 0) (xs : List X) (n : ℕ) (x : X) → Each P xs → P x → Each P (slice_set xs n x)
each_set P [] n x h g = tt
each_set P (y ∷ ys) zero x h g = (g, h.1)
each_set P (y ∷ ys) (suc n) x h g = (h.0, each_set P ys n x h.1 g)

each_same : {X : Type 0} (P : X → Type 0) (n : ℕ) (x : X) → P x → Each P (replicate n x)
each_same P zero x h = tt
each_same P (suc n) x h = (h, each_same P n x h)

-- ---- functions

named_well : (name : Name) (f : Function) (fs : Named) → OfFunction f → Each (λ p. OfFunction p.1) fs → Each (λ p. OfFunction p.1) (with_function name f fs)
named_well name f [] h g = (h, tt)
named_well name f (p ∷ ps) h g =
    elim (same_name name p.0) as (λ b. Each (λ p. OfFunction p.1) (if b then (p.0, f) ∷ ps else p ∷ with_function name f ps))
    [ true ↦ (h, g.1) | false ↦ (g.0, named_well name f ps h g.1) ]

-- ---- methods

methods_left : (rs : List Removal) (t : Table) → (without_all rs t).methods ≡ t.methods
methods_left [] t = refl
methods_left (r ∷ rs) t = methods_left rs (without_method r.generic.0 r.method.0 t)

methods_defined : (ds : List Definition) (t : Table) → (with_definitions ds t).methods ≡ t.methods
methods_defined [] t = refl
methods_defined (d ∷ ds) t = methods_defined ds (with_definition d.name d.options t)

methods_more : (ms : List Method) (t : Table) → Each HasBody t.methods → Each HasBody ms → Each HasBody (with_methods ms t).methods
methods_more [] t h g = h
methods_more (m ∷ ms) t h g = methods_more ms (with_method m.generic.0 m t) (each_append HasBody t.methods (m ∷ []) h (g.0, tt)) g.1

changed_well : (rs : List Removal) (ds : List Definition) (ms : List Method) (t : Table) → Each HasBody t.methods → Each HasBody ms
    → Each HasBody (changed rs ds ms t).methods
changed_well rs ds ms t h g =
    methods_more ms (with_definitions ds (without_all rs t))
    (subst (Each HasBody) (sym (methods_defined ds (without_all rs t) ∙ methods_left rs t)) h) g

changing_well : (rs : List Removal) (ds : List Definition) (ms : List Method) (w : State) → AreWellFormed w → Each HasBody ms → AreWellFormed (changing rs ds ms w)
changing_well rs ds ms w h g = (h.0, h.1, changed_well rs ds ms w.generics h.2 g, h.3)

options_well : (t : classes.Table) (g : ℕ) (ms : List MethodDefinition) (vs : List (Option Val)) → Each OfMethod ms → Each HasBody (methods_with t g ms vs)
options_well t g [] vs h = tt
options_well t g (m ∷ ms) vs h = ((h.0.0, h.0.2), options_well t g ms _ h.1)

accessor_well : (c : ℕ) (n : ℕ) (a : SlotAccessor) → HasBody (accessor_method c n a)
accessor_well c n a = elim a.accessor as (λ x. OfMethodBody (accessor_body a.slot x)) [ Reader name ↦ tt | Writer name ↦ tt ]

-- ---- classes

slots_well : (cell : Name → CellId) (ss : List SlotSpecifier) → Each OfSlot ss → Each (λ s. HasInit s.initform) (map (λ s. direct_slot s (cell s.name)) ss)
slots_well cell [] h = tt
slots_well cell (s ∷ ss) h = (h.0, slots_well cell ss h.1)

row_well : (rows : List ClassSlots) (n : ℕ) (row : ClassSlots) → Each OfClass rows → OfClass row → Each OfClass (classes.with_row rows n row)
row_well rows n row h g =
    elim (nat_lt n (length rows)) as (λ b. Each OfClass (if b then slice_set rows n row else rows ++ row ∷ []))
    [ true ↦ each_set OfClass rows n row h g | false ↦ each_append OfClass rows (row ∷ []) h (g, tt) ]

said_well : (d : ClassDefinition) (cell : Name → CellId) → Each OfSlot d.slots → Each OfDefault d.defaults → OfClass (classes.said cell d)
said_well d cell h g = (slots_well cell d.slots h, g)

class_well : (d : ClassDefinition) (vs : List (Option Val)) (w : State) → Each OfSlot d.slots → Each OfDefault d.defaults → AreWellFormed w
    → AreWellFormed (with_defined_class d vs w)
class_well d vs w h g s =
    let told : State = noting (class_notices d w) w in
    let m : AreWellFormed (with_accessors d told) =
    changing_well (class_removals d told) (class_functions d told) (class_methods d told) told s
    (each_map HasBody (λ a. accessor_method (class_number d told) (number_after told.generics (class_functions d told) (function_of a)) a)
    (λ a. accessor_well (class_number d told) (number_after told.generics (class_functions d told) (function_of a)) a) (accessors_of d.slots)) in
    (m.0, m.1, m.2, row_well _ _ _ m.3 (said_well d _ h g))

-- ---- sessions

well_stays : Stays AreWellFormed
well_stays = record { same = same_well; combination = λ d u h. h; change = λ c m n u h. h; removal = λ g m u own h. h }

stays_with : (top : Top) → top_forms.AreWellFormed top → StaysWith AreWellFormed top
stays_with = by_kind AreWellFormed top_forms.AreWellFormed
    (λ d h vs u none s. class_well d vs u (each_of OfSlot d.slots h.0) (each_of OfDefault d.defaults h.1) s)
    (λ d h vs u none s. changing_well (earlier_methods u.generics (named u.generics d.name)) (definition_of d ∷ []) (initial_methods d vs u) u s
    (options_well u.classes (number u.generics d.name) d.methods vs (each_of OfMethod d.methods h.1)))
    (λ name m h vs u none s. changing_well [] (function_for u.generics name (shape_of m.lambda_list)) (defined_method name m vs u ∷ []) u s ((h.0, h.2), tt))
    (λ f h name u s. ((named_well name (defined f) u.functions h s.0, s.1, s.2, s.3), (s.0, named_well name (defined f) u.setters h s.1, s.2, s.3)))

as_any : (d : Dat) (b : Bool) (top : Top) → has_method d ≡ b → (if b then None else any_top d) ≡ Some top → any_top d ≡ Some top
as_any d true top h k = absurd (none-some top k)
as_any d false top h k = k

read_well : (d : Dat) (top : Top) → top_of d ≡ Some top → top_forms.AreWellFormed top
read_well d top h = given_so top_forms.AreWellFormed well_formed_cases (Ok top) d (as_any d (has_method d) top refl h)

first_well : (limits : Limits) (names : List Name) → AreWellFormed (initial limits names)
first_well limits names =
    (tt, tt, each_map HasBody system_method (λ f. tt) system_functions, each_same OfClass (length predefined.names) says_nothing (tt, tt))

pub kept_forms_are_well_formed : KeptFormsAreWellFormed
kept_forms_are_well_formed limits names w u r same =
    same_well w u same (always AreWellFormed well_stays (λ d top e. stays_with top (read_well d top e)) limits names (first_well limits names) w r)

pub evaluated_forms_are_well_formed : EvaluatedFormsAreWellFormed
evaluated_forms_are_well_formed limits names w u any room f s r same plain =
    other_forms_are_no_matter any room f u s (kept_forms_are_well_formed limits names w u r same) plain
