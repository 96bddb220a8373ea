-- The forms of contexts, of kept definitions and of what methods are combined into are well formed where they stand.
use Rattle.std.proofs.Common.{◌≡◌, ℕ, Bool, true, false, List, [], ◌∷◌, ◌++◌, Option, Some, None, Result, Ok, Err, refl, length, slice_get, ◌==◌}
use Rattle.std.specs.List.{cons_option, filter_map, flat_map}
use Rattle.std.specs.Map.{lookup}
use Rattle.std.specs.Option.{option_map_or}
use Rattle.std.specs.Prelude.{⊤, cond, if◌then◌else◌, nat_le, IfSome, option_map}
use Rattle.lisp_data.specs.Datum.{Dat, Dats}
use Rattle.lisp_data.specs.Name.{Name, same_name}
use Rattle.lisp_data.specs.Value.{Val}
use Rattle.clos_forms.specs.Effective.{called_by, calling_all, effective_form, methods_of}
use Rattle.clos_forms.specs.Fault.{◌>>=◌}
use Rattle.clos_forms.specs.Form.{Form, Forms}
use Rattle.clos_forms.specs.Grammar.{form_of, full_room}
use Rattle.clos_forms.specs.Operator.{Callable}
use Rattle.clos_forms.specs.Part.{in_effective}
use Rattle.clos_forms.specs.WellFormed.{is_well_formed}
use Rattle.clos_forms.specs.declared.part.Context.{Context as Standing}
use Rattle.clos_forms.specs.declared.part.Context.TheVariants.{Effective as InEffective, Method as InMethod, Plain}
use Rattle.clos_forms.proofs.WellFormed.{form_is_well_formed}
use Rattle.clos_generic.specs.Sound.{Each}
use Rattle.clos_generic.proofs.Members.{each_of}
use Rattle.clos_generic.specs.Table as generics
use Rattle.clos_meaning.specs.Contexts.{Context, running}
use Rattle.clos_meaning.specs.Dispatch.{Dispatch}
use Rattle.clos_meaning.specs.Filling.{Filler, nothing, value, initform, filler_by, form_filler, unbound_filler}
use Rattle.clos_meaning.specs.Parameters.{Source, Sources, argument, refused, init, after_optional, after_required, entry_sources, first_and_others, given_source, init_source, key_sources, listed, optional_sources, required_sources, rest_sources, sources, variable_sources}
use Rattle.clos_meaning.specs.SystemMethods.{class_in, class_with, with_effective}
use Rattle.clos_meaning.specs.declared.arguments.Running.{Running}
use Rattle.clos_meaning.specs.clos_world.Class.{effective, precedence}
use Rattle.clos_meaning.specs.clos_world.Functions.{Named, function_in}
use Rattle.clos_meaning.specs.clos_world.World.{State, class_of_instance}
use Rattle.clos_meaning.specs.clos_world.clos_class.Slots as of_class
use Rattle.clos_meaning.specs.clos_world.clos_class.Slots.{Effective, effective_of}
use Rattle.clos_meaning.specs.clos_world.clos_class.SlotsView.{defaults, direct_slots}
use Rattle.clos_meaning.specs.clos_world.clos_class.Table.{Table}
use Rattle.clos_meaning.specs.clos_world.clos_class.declared.direct.ClassSlots.{ClassSlots}
use Rattle.clos_meaning.specs.clos_world.clos_class.declared.direct.DirectSlot.{DirectSlot}
use Rattle.clos_meaning.specs.clos_world.clos_class.declared.effective_slots.EffectiveSlot.{EffectiveSlot}
use Rattle.clos_meaning.specs.clos_world.clos_comb.Effective as comb
use Rattle.clos_meaning.specs.clos_world.clos_comb.Long.{expanded, expanded_with, result_formed, calls_among}
use Rattle.clos_meaning.specs.clos_world.clos_comb.Outcome as outcome
use Rattle.clos_meaning.specs.clos_world.clos_comb.Outcome.{Combined, formed, refused as refused_by, unless_refused}
use Rattle.clos_meaning.specs.clos_world.clos_comb.Short as of_short
use Rattle.clos_meaning.specs.clos_world.clos_comb.Short.{directed_combined}
use Rattle.clos_meaning.specs.clos_world.clos_comb.Standard as of_standard
use Rattle.clos_meaning.specs.clos_world.clos_comb.Table as combinations
use Rattle.clos_meaning.specs.clos_world.clos_comb.Table.{Combination, standard, short, long}
use Rattle.clos_method.specs.declared.method.Method.{Method}
use Rattle.clos_syntax.specs.WellFormed.{HasInit, IsPlain, OfDefault, OfKey, OfKeys, OfLambdaList, OfOptional}
use Rattle.clos_syntax.specs.clos_defclass.declared.class.DefaultInitarg.{DefaultInitarg}
use Rattle.lisp_data.specs.Datum.{nesting_of}
use Rattle.lisp_data.specs.declared.ids.CellId.{CellId}
use Rattle.lisp_prims.specs.Fault as prims
use Rattle.clos_meaning.specs.clos_world.clos_lambda.declared.lambda_list.Key.{Key}
use Rattle.clos_meaning.specs.clos_world.clos_lambda.declared.lambda_list.Keys.{Keys}
use Rattle.clos_meaning.specs.clos_world.clos_lambda.declared.lambda_list.LambdaList.{LambdaList}
use Rattle.clos_meaning.specs.clos_world.clos_lambda.declared.lambda_list.Optional.{Optional}
use Rattle.clos_meaning.specs.Parameters.{argument_named}
use Rattle.clos_meaning.specs.clos_world.clos_comb.Arguments.{is_no_data, parameters_bound, short_direction, takes as fits}
use Rattle.clos_meaning.specs.clos_world.clos_comb.Long.{groups_bound, most_conses, most_result_nesting}
use Rattle.clos_meaning.specs.clos_world.clos_comb.declared.direction.Direction.{Direction}
use Rattle.clos_groups.specs.Group.{members}
use Rattle.clos_groups.specs.Refusal as group
use Rattle.clos_combination.specs.declared.combination.LongForm.{LongForm}
use Rattle.clos_combination.specs.declared.combination.ShortForm.{ShortForm}
use Rattle.clos_combination.specs.declared.group.GroupSpecifier.{GroupSpecifier}
use Rattle.clos_combination.specs.clos_template.Expansion.{Expansion, made, bad, beyond}
use Rattle.clos_combination.specs.clos_template.Meaning.{meaning}
use Rattle.clos_combination.specs.clos_template.Scope.{Env}
use Rattle.clos_form_laws.specs.Evaluated.{standing_in, standing_of}
use Rattle.clos_form_laws.proofs.Parts.{AllStand, stands_anywhere}
use Rattle.clos_form_laws.specs.Kept.{OfClass, OfFunction}
use Rattle.clos_form_laws.proofs.Lists.{each_append, each_at, each_joined, each_kept, each_map}

-- ---- contexts

-- what runs for a method has the forms of those of its next methods that are made
abbrev pub HasProper : Option Running → Option Dispatch → Type 0
HasProper None call = ⊤
HasProper (Some r) None = ⊥
HasProper (Some r) (Some d) = AllStand InEffective r.forms

abbrev pub IsProper : Context → Type 0
IsProper env = HasProper env.running env.call

effective_has : (r : Option Running) (d : Option Dispatch) → in_effective (standing_of r d) ≡ true → HasProper r d
effective_has None d h = tt
effective_has (Some r) d h = absurd (cc h)

pub effective_proper : (env : Context) → in_effective (standing_in env) ≡ true → IsProper env
effective_proper env h = effective_has env.running env.call h

running_has : (o : Option Running) (d : Option Dispatch) (r : Running) → in_effective (standing_of o d) ≡ true → AllStand InEffective r.forms
    → HasProper (Some r) d
running_has (Some q) d r h a = absurd (cc h)
running_has None None r h a = absurd (cc h)
running_has None (Some d) r h a = a

pub running_proper : (m : ℕ) (next : List Callable) (fs : Forms) (env : Context) → in_effective (standing_in env) ≡ true → AllStand InEffective fs
    → IsProper (running m next fs env)
running_proper m next fs env h a = running_has env.running env.call (record { method = record { 0 = m }; next = next; forms = fs }) h a

pub is_effective : (c : Standing) → in_effective c ≡ true → c ≡ InEffective
is_effective Plain h = absurd (cc h)
is_effective InMethod h = absurd (cc h)
is_effective InEffective h = refl

-- what a next method gets
abbrev pub HasNext : Option Running → Option Dispatch → Type 0
HasNext None d = ⊤
HasNext (Some r) d = (in_effective (standing_of None d) ≡ true) × AllStand InEffective r.forms

pub has_next_forms : (o : Option Running) (d : Option Dispatch) → HasProper o d → HasNext o d
has_next_forms None d h = tt
has_next_forms (Some r) None h = absurd h
has_next_forms (Some r) (Some d) h = (refl, h)

-- ---- functions

pub named_stands : (name : Name) (fs : Named) → Each (λ p. OfFunction p.1) fs → IfSome (function_in fs name) OfFunction
named_stands name [] h = tt
named_stands name (p ∷ ps) h =
    elim (same_name name p.0) as (λ b. IfSome (cond b (Some p.1) (lookup (same_name name) ps)) OfFunction) [ true ↦ h.0 | false ↦ named_stands name ps h.1 ]

-- ---- parameters

abbrev pub SourceStands : Standing → Source → Type 0
SourceStands c (argument v) = ⊤
SourceStands c (refused x) = ⊤
SourceStands c (init f) = is_well_formed c f ≡ true

abbrev pub AllSources : Standing → Sources → Type 0
AllSources c ps = Each (λ p. SourceStands c p.1) ps

required_stand : (c : Standing) (ns : List Name) (vs : List Val) → AllSources c (required_sources ns vs)
required_stand c [] vs = tt
required_stand c (n ∷ ns) [] = tt
required_stand c (n ∷ ns) (v ∷ vs) = (tt, required_stand c ns vs)

init_stands : (c : Standing) (o : Option Form) → HasInit o → SourceStands c (init_source o)
init_stands c None h = tt
init_stands c (Some f) h = stands_anywhere c f h

given_stands : (c : Standing) (o : Option Name) (b : Bool) → AllSources c (given_source o b)
given_stands c None b = tt
given_stands c (Some n) b = (tt, tt)

variable_stands : (c : Standing) (o : Optional) (x : Option Val) → OfOptional o → AllSources c (variable_sources o x)
variable_stands c o None h = (init_stands c o.init h, given_stands c o.given false)
variable_stands c o (Some v) h = (tt, given_stands c o.given true)

optional_stand : (c : Standing) (os : List Optional) (vs : List Val) → Each OfOptional os → AllSources c (optional_sources os vs)
optional_stand c [] vs h = tt
optional_stand c (o ∷ os) vs h =
    each_append (λ p. SourceStands c p.1) (variable_sources o (first_and_others vs).0) (optional_sources os (first_and_others vs).1)
    (variable_stands c o (first_and_others vs).0 h.0) (optional_stand c os (first_and_others vs).1 h.1)

listed_stands : (c : Standing) (x : Result Val prims.Condition) → SourceStands c (listed x)
listed_stands c (Ok v) = tt
listed_stands c (Err e) = tt

rest_stands : (c : Standing) (o : Option Name) (vs : List Val) → AllSources c (rest_sources o vs)
rest_stands c None vs = tt
rest_stands c (Some n) vs = (listed_stands c _, tt)

entries_stand : (c : Standing) (ks : List Key) (vs : List Val) → Each OfKey ks → AllSources c (entry_sources ks vs)
entries_stand c [] vs h = tt
entries_stand c (k ∷ ks) vs h =
    each_append (λ p. SourceStands c p.1) (variable_sources k.variable (argument_named k.keyword vs)) (entry_sources ks vs)
    (variable_stands c k.variable (argument_named k.keyword vs) h.0) (entries_stand c ks vs h.1)

keys_stand : (c : Standing) (o : Option Keys) (vs : List Val) → IfSome o OfKeys → AllSources c (key_sources o vs)
keys_stand c None vs h = tt
keys_stand c (Some ks) vs h = entries_stand c ks.entries vs (each_of OfKey ks.entries h)

pub sources_stand : (c : Standing) (l : LambdaList) (vs : List Val) → OfLambdaList l → AllSources c (sources l vs)
sources_stand c l vs h =
    each_append (λ p. SourceStands c p.1) (required_sources l.required vs) _ (required_stand c l.required vs)
    (each_append (λ p. SourceStands c p.1) (optional_sources l.optional (after_required l vs)) _
    (optional_stand c l.optional (after_required l vs) (each_of OfOptional l.optional h.0))
    (each_append (λ p. SourceStands c p.1) (rest_sources l.rest (after_optional l vs)) (key_sources l.keys (after_optional l vs))
    (rest_stands c l.rest (after_optional l vs)) (keys_stand c l.keys (after_optional l vs) h.1)))

-- ---- classes

abbrev pub SlotStands : EffectiveSlot → Type 0
SlotStands s = HasInit s.initform

-- the initforms of slots, and the forms of default initargs
abbrev pub WholeStands : Effective → Type 0
WholeStands e = Each SlotStands e.slots × Each OfDefault e.defaults

direct_of : (o : Option ClassSlots) → IfSome o OfClass → Each (λ s. HasInit s.initform) (option_map_or (λ c. c.slots) o [])
direct_of None g = tt
direct_of (Some c) g = g.0

defaults_of : (o : Option ClassSlots) → IfSome o OfClass → Each OfDefault (option_map_or (λ c. c.defaults) o [])
defaults_of None g = tt
defaults_of (Some c) g = g.1

direct_stand : (rows : List ClassSlots) → Each OfClass rows → (n : ℕ) → Each (λ s. HasInit s.initform) (direct_slots rows n)
direct_stand rows h n = direct_of (slice_get rows n) (each_at OfClass rows n h)

defaults_stand : (rows : List ClassSlots) → Each OfClass rows → (n : ℕ) → Each OfDefault (defaults rows n)
defaults_stand rows h n = defaults_of (slice_get rows n) (each_at OfClass rows n h)

with_initform : (o : Option Form) (fs : List Form) → HasInit o → Each IsPlain fs → Each IsPlain (cons_option o fs)
with_initform None fs h g = g
with_initform (Some f) fs h g = (h, g)

initforms_stand : (ss : List DirectSlot) → Each (λ s. HasInit s.initform) ss → Each IsPlain (filter_map (λ s. s.initform) ss)
initforms_stand [] h = tt
initforms_stand (s ∷ ss) h = with_initform s.initform (filter_map (λ t. t.initform) ss) h.0 (initforms_stand ss h.1)

first_stands : (fs : List Form) → Each IsPlain fs → HasInit (of_class.first fs)
first_stands [] h = tt
first_stands (f ∷ fs) h = h.0

slot_stands : (of : of_class.DirectSlots) (l : List ℕ) (name : Name) → ((n : ℕ) → Each (λ s. HasInit s.initform) (of n)) → HasInit (of_class.initform of l name)
slot_stands of l name h =
    first_stands (filter_map (λ s. s.initform) (of_class.specifiers of l name))
    (initforms_stand (of_class.specifiers of l name)
    (each_kept (λ s. HasInit s.initform) (λ s. same_name name s.name) (flat_map of l) (each_joined (λ s. HasInit s.initform) of h l)))

first_of_each_stand : (ds : List DefaultInitarg) → Each OfDefault ds → Each OfDefault (of_class.first_of_each (λ d. d.name) ds)
first_of_each_stand [] h = tt
first_of_each_stand (d ∷ ds) h = (h.0, each_kept OfDefault _ (of_class.first_of_each (λ d. d.name) ds) (first_of_each_stand ds h.1))

whole_stands : (rows : List ClassSlots) (l : List ℕ) → Each OfClass rows → WholeStands (effective_of (direct_slots rows) (defaults rows) l)
whole_stands rows l h = (
  each_map SlotStands (of_class.effective_slot (direct_slots rows) l) (λ name. slot_stands (direct_slots rows) l name (direct_stand rows h))
      (of_class.accessible (direct_slots rows) l),
  first_of_each_stand (flat_map (defaults rows) l) (each_joined OfDefault (defaults rows) (defaults_stand rows h) l),
)

pub class_stands : (t : Table) (c : ℕ) → Each OfClass t.slots → IfSome (effective t c) WholeStands
class_stands t c h =
    elim (precedence t c) as (λ o. IfSome (option_map (effective_of (direct_slots t.slots) (defaults t.slots)) o) WholeStands)
    [ None ↦ tt | Some l ↦ whole_stands t.slots l h ]

with_effective_stands : (c : ℕ) (o : Option Effective) → IfSome o WholeStands → IfSome (with_effective c o) (λ p. WholeStands p.1)
with_effective_stands c None h = tt
with_effective_stands c (Some e) h = h

class_with_stands : (w : State) → Each OfClass w.classes.slots → (o : Option ℕ) → IfSome (class_with w o) (λ p. WholeStands p.1)
class_with_stands w h None = tt
class_with_stands w h (Some c) = with_effective_stands c (effective w.classes c) (class_stands w.classes c h)

pub class_in_stands : (w : State) (i : ℕ) → Each OfClass w.classes.slots → IfSome (class_in w i) (λ p. WholeStands p.1)
class_in_stands w i h = class_with_stands w h (class_of_instance w i)

-- what a slot is filled with
abbrev pub FillerStands : Filler → Type 0
FillerStands nothing = ⊤
FillerStands (value v) = ⊤
FillerStands (initform f) = IsPlain f

form_filler_stands : (o : Option Form) → HasInit o → FillerStands (form_filler o)
form_filler_stands None h = tt
form_filler_stands (Some f) h = h

pub unbound_stands : (b : Bool) (cell : Option CellId) (found : Option (Option Val)) (o : Option Form) → HasInit o
    → FillerStands (unbound_filler b cell found o)
unbound_stands true None (Some None) o h = form_filler_stands o h
unbound_stands true None (Some (Some v)) o h = tt
unbound_stands true None None o h = tt
unbound_stands true (Some cell) found o h = tt
unbound_stands false cell found o h = tt

pub filler_stands : (v : Option Val) (x : Filler) → FillerStands x → FillerStands (filler_by v x)
filler_stands None x h = h
filler_stands (Some v) x h = tt

-- ---- effective forms

abbrev IsEffective : Form → Type 0
IsEffective f = is_well_formed InEffective f ≡ true

abbrev pub CombinedStands : Combined → Type 0
CombinedStands (outcome.effective f) = IsEffective f
CombinedStands (outcome.invalid_method m) = ⊤
CombinedStands (outcome.group_empty name) = ⊤
CombinedStands (outcome.ambiguous_methods m n) = ⊤
CombinedStands outcome.bad_expansion = ⊤
CombinedStands outcome.expansion_limit = ⊤

read_stands : (d : Dat) (o : Option Form) → form_of InEffective d ≡ o → IfSome (o >>= calling_all (methods_of d)) IsEffective
read_stands d None h = tt
read_stands d (Some f) h =
    elim (length (called_by f) == length (methods_of d)) as (λ b. IfSome (if b then Some f else None) IsEffective)
    [ true ↦ form_is_well_formed full_room InEffective d f h | false ↦ tt ]

effective_stands : (d : Dat) → IfSome (effective_form d) IsEffective
effective_stands d = read_stands d (form_of InEffective d) refl

formed_stands : (o : Option Form) → IfSome o IsEffective → CombinedStands (formed o)
formed_stands None h = tt
formed_stands (Some f) h = h

result_stands : (ms : List ℕ) (o : Option Form) → IfSome o IsEffective → CombinedStands (result_formed ms o)
result_stands ms None h = tt
result_stands ms (Some f) h =
    elim (calls_among ms f) as (λ b. CombinedStands (if b then outcome.effective f else outcome.bad_expansion)) [ true ↦ h | false ↦ tt ]

expanded_stands : (ms : List ℕ) (x : Expansion) → CombinedStands (expanded ms x)
expanded_stands ms (made d n) =
    elim (nat_le (nesting_of d) most_result_nesting) as (λ b. CombinedStands (if b then result_formed ms (effective_form d) else outcome.expansion_limit))
    [ true ↦ result_stands ms (effective_form d) (effective_stands d) | false ↦ tt ]
expanded_stands ms bad = tt
expanded_stands ms beyond = tt

expanded_with_stands : (f : LongForm) (ms : List ℕ) (env : Env) (o : Option Env) → CombinedStands (expanded_with f ms env o)
expanded_with_stands f ms env None = tt
expanded_with_stands f ms env (Some groups) = expanded_stands ms (meaning f.template (env ++ groups) most_conses)

form_stands : (d : Dat) → CombinedStands (formed (effective_form d))
form_stands d = formed_stands (effective_form d) (effective_stands d)

directed_stands : (s : ShortForm) (methods : List Method) (ms : List ℕ) (o : Option Direction) → CombinedStands (directed_combined s methods ms o)
directed_stands s methods ms None = tt
directed_stands s methods ms (Some direction) =
    form_stands (of_short.short_form s (of_short.of_group s methods ms 0) (of_short.of_group s methods ms 1) direction)

combined_stands : (c : Combination) (methods : List Method) (arguments : Dats) (ms : List ℕ) → CombinedStands (comb.combined c methods arguments ms)
combined_stands standard methods arguments ms =
    let d : Dat = of_standard.standard_form (of_standard.of_group methods ms 0) (of_standard.of_group methods ms 1) (of_standard.of_group methods ms 2)
    (of_standard.of_group methods ms 3) in
    elim (is_no_data arguments) as (λ b. CombinedStands (if b then formed (effective_form d) else outcome.bad_expansion)) [ true ↦ form_stands d | false ↦ tt ]
combined_stands (short s) methods arguments ms = directed_stands s methods ms (short_direction arguments)
combined_stands (long f) methods arguments ms =
    elim (fits f.parameters arguments) as (λ b. CombinedStands (if b
    then expanded_with f ms (parameters_bound f.parameters arguments)
    (groups_bound (parameters_bound f.parameters arguments) (λ k. members methods f.groups k ms) 0 f.groups)
    else outcome.bad_expansion))
    [ true ↦ expanded_with_stands f ms (parameters_bound f.parameters arguments) _ | false ↦ tt ]

refused_stands : (gs : List GroupSpecifier) (r : group.Refusal) → CombinedStands (refused_by gs r)
refused_stands gs (group.invalid_method m) = tt
refused_stands gs (group.group_empty k) = tt
refused_stands gs (group.ambiguous_methods m n) = tt

unless_stands : (gs : List GroupSpecifier) (o : Option group.Refusal) (c : Combined) → CombinedStands c → CombinedStands (unless_refused gs o c)
unless_stands gs None c h = h
unless_stands gs (Some r) c h = refused_stands gs r

defined_stands : (o : Option Combination) (methods : List Method) (f : generics.Function) (ms : List ℕ) → CombinedStands (comb.if_defined o methods f ms)
defined_stands None methods f ms = tt
defined_stands (Some c) methods f ms =
    unless_stands (comb.groups_of c) (comb.groups_refusal c methods f.methods ms) (comb.combined c methods f.combination.arguments ms)
    (combined_stands c methods f.combination.arguments ms)

for_stands : (t : combinations.Table) (methods : List Method) (ms : List ℕ) (o : Option generics.Function) → CombinedStands (comb.combined_for t methods ms o)
for_stands t methods ms None = tt
for_stands t methods ms (Some f) = defined_stands (combinations.combination_named t f.combination.name) methods f ms

pub effective_form_stands : (t : combinations.Table) (g : generics.Table) (n : ℕ) (ms : List ℕ) → CombinedStands (comb.effective t g n ms)
effective_form_stands t g n ms = for_stands t g.methods ms (slice_get g.functions n)
