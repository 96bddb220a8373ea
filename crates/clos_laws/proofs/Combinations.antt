-- In each state that a session comes to, the method combinations of generic functions are defined.
use Rattle.std.proofs.Common.{◌≡◌, ℕ, zero, suc, Bool, true, false, List, [], ◌∷◌, ◌++◌, Option, Some, None, map, refl, sym, subst}
use Rattle.std.specs.Prelude.{⊤, codes, is_some, option_map, unwrap_or, if◌then◌else◌}
use Rattle.std.specs.Map.{lookup}
use Rattle.lisp_data.specs.Datum.{Dats}
use Rattle.lisp_data.specs.Name.{Name, same_name}
use Rattle.lisp_data.specs.Value.{Val}
use Rattle.clos_forms.specs.clos_names.Names.{is_called}
use Rattle.clos_forms.specs.declared.operator.FunctionName.{FunctionName}
use Rattle.clos_combination.specs.declared.combination.CombinationDefinition.{CombinationDefinition}
use Rattle.clos_combination.specs.declared.combination.ShortForm.{ShortForm}
use Rattle.clos_generic.specs.Initial.{standard, standard_options, system_generic}
use Rattle.clos_generic.specs.Sound.{Each}
use Rattle.clos_generic.specs.Table.{Function, Table, defined_at, made, named, redefined, with_changed, with_definition, with_method, without_method}
use Rattle.clos_generic.specs.declared.changes.Definition.{Definition}
use Rattle.clos_generic.specs.declared.changes.Removal.{Removal}
use Rattle.clos_generic.specs.declared.options.Options.{Options}
use Rattle.clos_method.specs.Shape.{made_by, shape_of}
use Rattle.clos_method.specs.System.{system_functions}
use Rattle.clos_method.specs.declared.method.Method.{Method}
use Rattle.clos_method.specs.declared.shape.Shape.{Shape}
use Rattle.clos_syntax.specs.clos_defclass.declared.class.ClassDefinition.{ClassDefinition}
use Rattle.clos_syntax.specs.declared.generic.CombinationUse.{CombinationUse}
use Rattle.clos_syntax.specs.declared.generic.GenericDefinition.{GenericDefinition}
use Rattle.clos_top.specs.declared.top.Top.{Top}
use Rattle.clos_session.specs.clos_world.Definitions.{Same}
use Rattle.clos_session.specs.clos_world.World.{State}
use Rattle.clos_session.specs.clos_world.clos_comb.Fault.{misuse_with}
use Rattle.clos_session.specs.clos_world.clos_comb.Table as combinations
use Rattle.clos_session.specs.clos_world.clos_comb.Table.{Combination, built_in_named, combination_named, combination_of, name_of, or_defined, with_combination, with_named}
use Rattle.clos_session.specs.clos_world.declared.limits.Limits.{Limits}
use Rattle.clos_session.specs.clos_definition_forms.clos_definition.declared.accessor.SlotAccessor.{SlotAccessor}
use Rattle.clos_session.specs.clos_definition_forms.clos_definition.Accessor.{accessors_of, function_made, function_of, is_there, with_functions}
use Rattle.clos_session.specs.clos_definition_forms.clos_definition.Class.{class_functions, class_methods, class_notices, class_removals, noting, with_defined_class}
use Rattle.clos_session.specs.clos_definition_forms.clos_definition.Effect.{changed, with_definitions, with_methods, without_all}
use Rattle.clos_session.specs.clos_definition_forms.clos_definition.Generic.{combination_refusal, definition_of, earlier_methods, generic_changes, generic_refusal, initial_methods, methods_refusal, misuse_told, names_refusal}
use Rattle.clos_session.specs.clos_definition_forms.clos_definition.Method.{defined_method, function_for}
use Rattle.clos_session.specs.clos_definition_forms.clos_definition.Refusal.{or_else, table_refusal, taken_refusal}
use Rattle.clos_form_laws.proofs.Lists.{each_append, each_map}
use Rattle.clos_laws.specs.Combinations.{CombinationsAreDefined, HasCombination}
use Rattle.clos_laws.proofs.Refusals.{first_none, second_none}
use Rattle.clos_laws.proofs.Sessions.{Stays, StaysWith, always, by_kind}

-- ---- the table of generic functions

-- the functions that are there have theirs, and so have those that are defined
abbrev HaveCombinations : combinations.Table → List Function → Type 0
HaveCombinations t fs = Each (HasCombination t) fs

abbrev IsNamed : combinations.Table → Name → Type 0
IsNamed t name = is_some (combination_named t name) ≡ true

abbrev AreNamed : combinations.Table → List Definition → Type 0
AreNamed t ds = Each (λ d. IsNamed t d.options.combination.name) ds

each_changed : {X : Type 0} (P : X → Type 0) (change : X → X) (n : ℕ) (xs : List X) → ((x : X) → P x → P (change x)) → Each P xs
    → Each P (with_changed change n xs)
each_changed P change n [] h g = tt
each_changed P change zero (x ∷ xs) h g = (h x g.0, g.1)
each_changed P change (suc n) (x ∷ xs) h g = (g.0, each_changed P change n xs h g.1)

defined_so : (t : combinations.Table) (o : Option ℕ) (name : FunctionName) (options : Options) (fs : List Function)
    → IsNamed t options.combination.name → HaveCombinations t fs → HaveCombinations t (defined_at o name options fs)
defined_so t None name options fs h g = each_append (HasCombination t) fs (made name options ∷ []) g (h, tt)
defined_so t (Some n) name options fs h g = each_changed (HasCombination t) (redefined options) n fs (λ f s. h) g

removed_so : (t : combinations.Table) (rs : List Removal) (g : Table) → HaveCombinations t g.functions → HaveCombinations t (without_all rs g).functions
removed_so t [] g h = h
removed_so t (r ∷ rs) g h =
    removed_so t rs (without_method r.generic.0 r.method.0 g) (each_changed (HasCombination t) _ r.generic.0 g.functions (λ f s. s) h)

all_defined_so : (t : combinations.Table) (ds : List Definition) (g : Table) → AreNamed t ds → HaveCombinations t g.functions
    → HaveCombinations t (with_definitions ds g).functions
all_defined_so t [] g h s = s
all_defined_so t (d ∷ ds) g h s =
    all_defined_so t ds (with_definition d.name d.options g) h.1 (defined_so t (named g d.name) d.name d.options g.functions h.0 s)

added_so : (t : combinations.Table) (ms : List Method) (g : Table) → HaveCombinations t g.functions → HaveCombinations t (with_methods ms g).functions
added_so t [] g h = h
added_so t (m ∷ ms) g h =
    added_so t ms (with_method m.generic.0 m g) (each_changed (HasCombination t) _ m.generic.0 g.functions (λ f s. s) h)

changed_so : (t : combinations.Table) (rs : List Removal) (ds : List Definition) (ms : List Method) (g : Table) → AreNamed t ds
    → HaveCombinations t g.functions → HaveCombinations t (changed rs ds ms g).functions
changed_so t rs ds ms g h s =
    added_so t ms (with_definitions ds (without_all rs g)) (all_defined_so t ds (without_all rs g) h (removed_so t rs g s))

-- ---- the functions that forms define

standard_named : (t : combinations.Table) → IsNamed t standard.name
standard_named t = refl

-- those of accessors
functions_named : (t : combinations.Table) (g : Table) (ds : List Definition) (more : List SlotAccessor) → AreNamed t ds → AreNamed t (with_functions g ds more)
functions_named t g ds [] h = h
functions_named t g ds (a ∷ more) h =
    functions_named t g (if is_there g ds (function_of a) then ds else ds ++ function_made a ∷ []) more
    (elim (is_there g ds (function_of a)) as (λ b. AreNamed t (if b then ds else ds ++ function_made a ∷ []))
    [ true ↦ h | false ↦ each_append (λ d. IsNamed t d.options.combination.name) ds (function_made a ∷ []) h (standard_named t, tt) ])

-- that of a method
function_named_so : (t : combinations.Table) (g : Table) (name : FunctionName) (shape : Shape) → AreNamed t (function_for g name shape)
function_named_so t g name shape =
    elim (is_some (named g name)) as (λ b. AreNamed t (if b then [] else (record { name = name; options = standard_options (made_by shape) } ∷ [])))
    [ true ↦ tt | false ↦ (standard_named t, tt) ]

-- that of a defgeneric, which is refused where there is none
well_used : (name : Name) (o : Option Combination) (l : Dats) → option_map (misuse_told name) (misuse_with o l) ≡ None → is_some o ≡ true
well_used name None l h = cc
well_used name (Some c) l h = refl

use_named : (o : Option CombinationUse) (w : State) → combination_refusal o w ≡ None → IsNamed w.combinations (unwrap_or o standard).name
use_named None w h = standard_named w.combinations
use_named (Some c) w h = well_used c.name (combination_named w.combinations c.name) c.arguments h

generic_named : (d : GenericDefinition) (vs : List (Option Val)) (w : State) → generic_refusal d (Some vs) w ≡ None → AreNamed w.combinations (definition_of d ∷ [])
generic_named d vs w none =
    let own : names_refusal d w ≡ None = first_none (names_refusal d w) (table_refusal d.name (generic_changes d (Some vs) w) w) none in
    let more : or_else (combination_refusal d.combination w) (methods_refusal d.methods w) ≡ None =
    second_none (taken_refusal d.name w) (or_else (combination_refusal d.combination w) (methods_refusal d.methods w)) own in
    (use_named d.combination w (first_none (combination_refusal d.combination w) (methods_refusal d.methods w) more), tt)

-- ---- a combination that is defined leaves the others there

found_by : (b : Bool) (c d : CombinationDefinition) (x y : Option CombinationDefinition)
    → (is_some (option_map combination_of x) ≡ true → is_some (option_map combination_of y) ≡ true)
    → is_some (option_map combination_of (if b then Some c else x)) ≡ true → is_some (option_map combination_of (if b then Some d else y)) ≡ true
found_by true c d x y k h = refl
found_by false c d x y k h = k h

abbrev IsFound : Name → List (Name × CombinationDefinition) → Type 0
IsFound name es = is_some (option_map combination_of (lookup (same_name name) es)) ≡ true

still_found : (name key : Name) (c : CombinationDefinition) (es : List (Name × CombinationDefinition)) → IsFound name es → IsFound name (with_named key c es)
still_found name key c [] h = cc
still_found name key c (e ∷ es) h =
    elim (same_name key e.0) as (λ b. IsFound name (if b then (e.0, c) ∷ es else e ∷ with_named key c es)) [
      | true ↦ found_by (same_name name e.0) e.1 c (lookup (same_name name) es) (lookup (same_name name) es) (λ s. s) h
      | false ↦ found_by (same_name name e.0) e.1 e.1 (lookup (same_name name) es) (lookup (same_name name) (with_named key c es))
          (λ s. still_found name key c es s) h
    ]

named_by : (b : Bool) (o : Option ShortForm) (x y : Option Combination) → (is_some x ≡ true → is_some y ≡ true)
    → is_some (if b then Some combinations.standard else or_defined o x) ≡ true → is_some (if b then Some combinations.standard else or_defined o y) ≡ true
named_by true o x y k h = refl
named_by false (Some s) x y k h = refl
named_by false None x y k h = k h

still_named : (d : CombinationDefinition) (t : combinations.Table) (name : Name) → IsNamed t name → IsNamed (with_combination d t) name
still_named d t name =
    named_by (is_called (codes "STANDARD") name) (built_in_named name) (combinations.defined_named t name) (combinations.defined_named (with_combination d t) name)
    (still_found name (name_of d) d t.defined)

each_still : (d : CombinationDefinition) (t : combinations.Table) (fs : List Function) → HaveCombinations t fs → HaveCombinations (with_combination d t) fs
each_still d t [] h = tt
each_still d t (f ∷ fs) h = (still_named d t f.combination.name h.0, each_still d t fs h.1)

-- ---- sessions

abbrev AllHave : State → Type 0
AllHave w = HaveCombinations w.combinations w.generics.functions

same_have : (w u : State) → Same w u → AllHave w → AllHave u
same_have w u h s =
    subst (λ t. HaveCombinations t u.generics.functions) (sym h.2) (subst (λ g. HaveCombinations w.combinations g.functions) (sym h.1) s)

have_stay : Stays AllHave
have_stay = record {
  same = same_have;
  combination = λ d u h. each_still d u.combinations u.generics.functions h;
  change = λ c m n u h. h;
  removal = λ g m u own h. each_changed (HasCombination u.combinations) _ g u.generics.functions (λ f s. s) h;
}

first_have : (limits : Limits) → HaveCombinations (combinations.initial limits.combinations) (map system_generic system_functions)
first_have limits = each_map (HasCombination (combinations.initial limits.combinations)) system_generic (λ f. refl) system_functions

class_have : (d : ClassDefinition) (vs : List (Option Val)) (w : State) → AllHave w → AllHave (with_defined_class d vs w)
class_have d vs w s =
    let told : State = noting (class_notices d w) w in
    changed_so w.combinations (class_removals d told) (class_functions d told) (class_methods d told) w.generics
    (functions_named w.combinations w.generics [] (accessors_of d.slots) tt) s

stays_with : (top : Top) → StaysWith AllHave top
stays_with top = by_kind AllHave (λ t. ⊤)
    (λ d h vs u none s. class_have d vs u s)
    (λ d h vs u none s. changed_so u.combinations (earlier_methods u.generics (named u.generics d.name)) (definition_of d ∷ []) (initial_methods d vs u) u.generics
    (generic_named d vs u none) s)
    (λ name m h vs u none s. changed_so u.combinations [] (function_for u.generics name (shape_of m.lambda_list)) (defined_method name m vs u ∷ []) u.generics
    (function_named_so u.combinations u.generics name (shape_of m.lambda_list)) s)
    (λ f h name u s. (s, s)) top tt

pub combinations_are_defined : CombinationsAreDefined
combinations_are_defined limits names w u r same =
    same_have w u same (always AllHave have_stay (λ d top e. stays_with top) limits names (first_have limits) w r)
