-- The forms of each definition that is read are well formed.
use Rattle.std.proofs.Common.{◌≡◌, true, List, ◌∷◌, All, Option, Some, None}
use Rattle.std.specs.Prelude.{ℕ, IfSome, codes, if◌then◌else◌}
use Rattle.std.proofs.lemmas.List.Elements.{All-nil, All-cons}
use Rattle.lisp_data.specs.Name.{Name}
use Rattle.lisp_data.specs.Datum.{Dat, integer, symbol, string, list, dotted, method, Dats, nil, cons}
use Rattle.clos_forms.specs.Binding.{each}
use Rattle.clos_forms.specs.Body.{body_of}
use Rattle.clos_forms.specs.Distinct.{are_distinct}
use Rattle.clos_forms.specs.Fault.{◌>>=◌}
use Rattle.clos_forms.specs.Form.{Form, Forms}
use Rattle.clos_forms.specs.FunctionName.{symbol_in, variable_in}
use Rattle.clos_forms.specs.Grammar.{form_of, body_forms_of, full_room}
use Rattle.clos_forms.specs.Part.{at_most_one, only_in}
use Rattle.clos_forms.specs.WellFormed.{are_well_formed}
use Rattle.clos_forms.specs.declared.operator.FunctionName.{FunctionName}
use Rattle.clos_forms.specs.declared.part.Context.{Context}
use Rattle.clos_forms.specs.declared.part.Context.TheVariants.{Plain, Method}
use Rattle.clos_forms.proofs.WellFormed.{form_is_well_formed, forms_are_well_formed}
use Rattle.clos_lambda.specs.LambdaList.{all_variables, allowing, bare, generic_lambda_list_in, given_in, has_inits, if_distinct, key_in, key_with, keyed, keyword_of, keys_from, lambda_list_in, listed_key, listed_optional, named_key, optional_in, optional_with, optionals_in, ordinary, parameter_in, plain_key, rest_in, with_keys, with_optionals, with_rest}
use Rattle.clos_forms.specs.Sequence.{single}
use Rattle.clos_lambda.specs.Lists.{list_in, or_none}
use Rattle.clos_lambda.specs.Sections.{after, back, front, is_symbol_called, past}
use Rattle.clos_lambda.specs.PlainForm.{form_in}
use Rattle.clos_lambda.specs.Property.{anything, arguments_in, documentation_in, option_in, options_of, value_in, values_of}
use Rattle.clos_lambda.specs.declared.lambda_list.Keys.{Keys}
use Rattle.clos_lambda.specs.declared.lambda_list.LambdaList.{LambdaList}
use Rattle.clos_lambda.specs.declared.lambda_list.Optional.{Optional}
use Rattle.clos_defclass.specs.Names.{default_names, slot_names}
use Rattle.clos_syntax.specs.Class.{class_in, class_option_in, class_options_in, class_with, default_with, defaults_from, defaults_in, documentation_option_in, if_distinct_defaults, if_distinct_slots, metaclass_in, new_class_in, slots_in, superclasses_in}
use Rattle.clos_syntax.specs.Function.{function_in, function_with}
use Rattle.clos_syntax.specs.FunctionName.{new_function_in}
use Rattle.clos_syntax.specs.Generic.{combination_use_in, fits, generic, generic_in, generic_option_in, generic_options_in, generic_with, method_option_in, symbols_in}
use Rattle.clos_syntax.specs.Method.{eql_specializer, listed_specializer, method_in, method_with, past_qualifiers, qualified, qualifiers_in, required_in, specialized, specializer_in, specializer_named, specializers_in}
use Rattle.clos_syntax.specs.Slot.{accessors_in, allocation_in, are_slot_options, listed_slot, or_instance, slot_from, slot_in, slot_with}
use Rattle.clos_syntax.specs.Variable.{documented, init_in, is_documentation, variable_definition_in}
use Rattle.clos_syntax.specs.WellFormed.{HasInit, IsPlain, OfClass, OfDefault, OfFunction, OfGeneric, OfKey, OfKeys, OfLambdaList, OfMethod, OfOptional, OfSlot, OfSpecializer, OfVariable}
use Rattle.clos_defclass.specs.declared.class.ClassDefinition.{ClassDefinition}
use Rattle.clos_defclass.specs.declared.class.DefaultInitarg.{DefaultInitarg}
use Rattle.clos_syntax.specs.declared.function.FunctionDefinition.{FunctionDefinition}
use Rattle.clos_syntax.specs.declared.generic.CombinationUse.{CombinationUse}
use Rattle.clos_syntax.specs.declared.generic.GenericDefinition.{GenericDefinition}
use Rattle.clos_syntax.specs.declared.generic.GenericOptions.{GenericOptions}
use Rattle.clos_syntax.specs.declared.method.MethodDefinition.{MethodDefinition}
use Rattle.clos_syntax.specs.declared.method.ParameterSpecializer.{ParameterSpecializer}
use Rattle.clos_syntax.specs.declared.method.ParameterSpecializer.TheVariants.{Eql}
use Rattle.clos_defclass.specs.declared.slot.Accessor.{Accessor}
use Rattle.clos_defclass.specs.declared.slot.Allocation.{Allocation}
use Rattle.clos_defclass.specs.declared.slot.SlotSpecifier.{SlotSpecifier}
use Rattle.clos_syntax.specs.declared.variable.Definer.{Definer}
use Rattle.clos_syntax.specs.declared.variable.Definer.TheVariants.{DefVar, DefParameter}
use Rattle.clos_syntax.proofs.WhereGiven.{passes, keeps, either, all_of_each, single_law, each_given}

pub form_law : (d : Dat) → IfSome (form_of Plain d) IsPlain
form_law d = each_given IsPlain (form_of Plain d) (λ f e. form_is_well_formed full_room Plain d f e)

abbrev AllWell : Context → Forms → Type 0
AllWell context fs = are_well_formed context fs ≡ true

body_law : (context : Context) (l : Dats) → IfSome (body_forms_of context l) (AllWell context)
body_law context l = each_given (AllWell context) (body_forms_of context l) (λ fs e. forms_are_well_formed full_room context (body_of l) fs e)

-- ---- lambda lists

abbrev opt : Name → Form → Option Name → Optional
opt n f g = record { name = n; init = Some f; given = g }

optional_with_law : (n : Name) (l : Dats) → IfSome (optional_with n l) OfOptional
optional_with_law n nil = tt
optional_with_law n (cons init l) =
    keeps IsPlain OfOptional (form_of Plain init) (λ f. at_most_one l >>= given_in >>= λ g. Some (opt n f g)) (form_law init)
    (λ f p. passes OfOptional (at_most_one l >>= given_in) (λ g. Some (opt n f g)) (λ g. p))

listed_optional_law : (l : Dats) → IfSome (listed_optional l) OfOptional
listed_optional_law nil = tt
listed_optional_law (cons v l) = passes OfOptional (parameter_in v) (λ n. optional_with n l) (λ n. optional_with_law n l)

optional_law : (d : Dat) → IfSome (optional_in d) OfOptional
optional_law (integer n) = tt
optional_law (symbol name) = passes OfOptional (parameter_in (symbol name)) (λ n. Some (bare n)) (λ n. tt)
optional_law (string s) = tt
optional_law (list l) = listed_optional_law l
optional_law (dotted l d) = tt
optional_law (method n) = tt

optionals_law : (o : Option Dats) → IfSome (optionals_in o) (All OfOptional)
optionals_law None = All-nil OfOptional
optionals_law (Some section) = all_of_each OfOptional optional_in optional_law (front section)

keyed_law : (k : Name) (o : Option Optional) → IfSome o OfOptional → IfSome (o >>= λ x. Some (keyed k x)) OfKey
keyed_law k o h = keeps OfOptional OfKey o (λ x. Some (keyed k x)) h (λ x p. p)

named_key_law : (m l : Dats) → IfSome (named_key m l) OfKey
named_key_law nil l = tt
named_key_law (cons name v) l =
    passes OfKey (symbol_in name) (λ k. only_in v >>= parameter_in >>= λ n. optional_with n l >>= λ o. Some (keyed k o))
    (λ k. passes OfKey (only_in v >>= parameter_in) (λ n. optional_with n l >>= λ o. Some (keyed k o))
    (λ n. keyed_law k (optional_with n l) (optional_with_law n l)))

plain_key_law : (n : Name) (l : Dats) → IfSome (plain_key n l) OfKey
plain_key_law n l = keyed_law (keyword_of n) (optional_with n l) (optional_with_law n l)

key_with_law : (d : Dat) (l : Dats) → IfSome (key_with d l) OfKey
key_with_law (integer n) l = tt
key_with_law (symbol name) l = passes OfKey (parameter_in (symbol name)) (λ n. plain_key n l) (λ n. plain_key_law n l)
key_with_law (string s) l = tt
key_with_law (list m) l = named_key_law m l
key_with_law (dotted m d) l = tt
key_with_law (method n) l = tt

listed_key_law : (l : Dats) → IfSome (listed_key l) OfKey
listed_key_law nil = tt
listed_key_law (cons v l) = key_with_law v l

key_law : (d : Dat) → IfSome (key_in d) OfKey
key_law (integer n) = tt
key_law (symbol name) = passes OfKey (parameter_in (symbol name)) (λ n. plain_key n nil) (λ n. plain_key_law n nil)
key_law (string s) = tt
key_law (list l) = listed_key_law l
key_law (dotted l d) = tt
key_law (method n) = tt

abbrev MayHaveKeys : Option Keys → Type 0
MayHaveKeys o = IfSome o OfKeys

keys_law : (o : Option Dats) (l : Dats) → IfSome (keys_from o l) MayHaveKeys
keys_law None nil = tt
keys_law None (cons d l) = tt
keys_law (Some section) l =
    keeps (All OfKey) MayHaveKeys (each key_in (front section))
    (λ es. allowing (back section) >>= λ a. Some (Some (record { entries = es; allow_other_keys = a })))
    (all_of_each OfKey key_in key_law (front section))
    (λ es p. passes MayHaveKeys (allowing (back section)) (λ a. Some (Some (record { entries = es; allow_other_keys = a }))) (λ a. p))

abbrev lambda_list : List Name → List Optional → Option Name → Option Keys → LambdaList
lambda_list required os rest ks = record { required = required; optional = os; rest = rest; keys = ks }

with_keys_law : (ns : List Name) (os : List Optional) (r : Option Name) (l : Dats) → All OfOptional os → IfSome (with_keys ns os r l) OfLambdaList
with_keys_law ns os r l h =
    keeps MayHaveKeys OfLambdaList (keys_from (after (codes "&KEY") l) l) (λ ks. if_distinct (lambda_list ns os r ks))
    (keys_law (after (codes "&KEY") l) l)
    (λ ks p. either OfLambdaList (are_distinct (all_variables (lambda_list ns os r ks))) (Some (lambda_list ns os r ks)) None (h, p) tt)

with_rest_law : (ns : List Name) (os : List Optional) (l : Dats) → All OfOptional os → IfSome (with_rest ns os l) OfLambdaList
with_rest_law ns os l h =
    passes OfLambdaList (rest_in (after (codes "&REST") l)) (λ r. with_keys ns os r (past l (after (codes "&REST") l)))
    (λ r. with_keys_law ns os r (past l (after (codes "&REST") l)) h)

with_optionals_law : (ns : List Name) (l : Dats) → IfSome (with_optionals ns l) OfLambdaList
with_optionals_law ns l =
    keeps (All OfOptional) OfLambdaList (optionals_in (after (codes "&OPTIONAL") l)) (λ os. with_rest ns os (past l (after (codes "&OPTIONAL") l)))
    (optionals_law (after (codes "&OPTIONAL") l)) (λ os p. with_rest_law ns os (past l (after (codes "&OPTIONAL") l)) p)

ordinary_law : (l : Dats) → IfSome (ordinary l) OfLambdaList
ordinary_law l = passes OfLambdaList (each parameter_in (front l)) (λ ns. with_optionals ns (back l)) (λ ns. with_optionals_law ns (back l))

lambda_list_law : (d : Dat) → IfSome (lambda_list_in d) OfLambdaList
lambda_list_law d = passes OfLambdaList (list_in d) ordinary ordinary_law

generic_lambda_list_law : (d : Dat) → IfSome (generic_lambda_list_in d) OfLambdaList
generic_lambda_list_law d =
    keeps OfLambdaList OfLambdaList (lambda_list_in d) (λ l. if has_inits l then None else Some l) (lambda_list_law d)
    (λ l p. either OfLambdaList (has_inits l) None (Some l) tt p)

-- ---- methods

eql_law : (l : Dats) → IfSome (eql_specializer l) OfSpecializer
eql_law nil = tt
eql_law (cons head l) =
    either OfSpecializer (is_symbol_called (codes "EQL") head) (only_in l >>= form_of Plain >>= λ f. Some (Eql f)) None
    (keeps IsPlain OfSpecializer (only_in l >>= form_of Plain) (λ f. Some (Eql f)) (passes IsPlain (only_in l) (form_of Plain) form_law) (λ f p. p)) tt

specializer_named_law : (d : Dat) → IfSome (specializer_named d) OfSpecializer
specializer_named_law (integer n) = tt
specializer_named_law (symbol name) = tt
specializer_named_law (string s) = tt
specializer_named_law (list l) = eql_law l
specializer_named_law (dotted l d) = tt
specializer_named_law (method n) = tt

listed_specializer_law : (l : Dats) → IfSome (listed_specializer l) OfSpecializer
listed_specializer_law nil = tt
listed_specializer_law (cons v l) = passes OfSpecializer (only_in l) specializer_named specializer_named_law

specializer_law : (d : Dat) → IfSome (specializer_in d) OfSpecializer
specializer_law (integer n) = tt
specializer_law (symbol name) = tt
specializer_law (string s) = tt
specializer_law (list l) = listed_specializer_law l
specializer_law (dotted l d) = tt
specializer_law (method n) = tt

specialized_law : (l : Dats) → IfSome (specialized l) OfLambdaList
specialized_law l = passes OfLambdaList (each required_in (front l)) (λ ns. with_optionals ns (back l)) (λ ns. with_optionals_law ns (back l))

abbrev made : Dats → LambdaList → List ParameterSpecializer → Forms → MethodDefinition
made qualifiers l ss fs = record { qualifiers = qualifiers; lambda_list = l; specializers = ss; body = fs }

method_with_law : (qualifiers parameters body : Dats) → IfSome (method_with qualifiers parameters body) OfMethod
method_with_law qualifiers parameters body =
    keeps OfLambdaList OfMethod (specialized parameters)
    (λ l. specializers_in parameters >>= λ ss. body_forms_of Method body >>= λ fs. Some (made qualifiers l ss fs)) (specialized_law parameters)
    (λ l p. keeps (All OfSpecializer) OfMethod (specializers_in parameters)
    (λ ss. body_forms_of Method body >>= λ fs. Some (made qualifiers l ss fs)) (all_of_each OfSpecializer specializer_in specializer_law (front parameters))
    (λ ss q. keeps (AllWell Method) OfMethod (body_forms_of Method body) (λ fs. Some (made qualifiers l ss fs)) (body_law Method body)
    (λ fs r. (p, q, r))))

qualified_law : (qualifiers l : Dats) → IfSome (qualified qualifiers l) OfMethod
qualified_law qualifiers nil = tt
qualified_law qualifiers (cons parameters body) =
    passes OfMethod (list_in parameters) (λ l. method_with qualifiers l body) (λ l. method_with_law qualifiers l body)

pub method_law : (l : Dats) → IfSome (method_in l) OfMethod
method_law l = qualified_law (qualifiers_in l) (past_qualifiers l)

-- ---- generic functions

abbrev OfOptions : GenericOptions → Type 0
OfOptions os = All OfMethod os.methods

option_law : (d : Dat) → IfSome (method_option_in d) OfMethod
option_law d = passes OfMethod (arguments_in d) method_in method_law

abbrev with_methods : Dats → Option (List Name) → Option CombinationUse → Option GenericOptions
with_methods l precedence combination =
    each method_option_in (options_of (codes "METHOD") l)
    >>= λ ms. Some (record { precedence = precedence; combination = combination; methods = ms })

abbrev with_combination : Dats → Option (List Name) → Option GenericOptions
with_combination l precedence = option_in combination_use_in (codes "METHOD-COMBINATION") l >>= λ c. with_methods l precedence c

abbrev with_precedence : Dats → Option GenericOptions
with_precedence l = option_in symbols_in (codes "ARGUMENT-PRECEDENCE-ORDER") l >>= λ p. with_combination l p

abbrev with_documentation : Dats → Option GenericOptions
with_documentation l = option_in documentation_option_in (codes "DOCUMENTATION") l >>= λ d. with_precedence l

methods_law : (l : Dats) (p : Option (List Name)) (c : Option CombinationUse) → IfSome (with_methods l p c) OfOptions
methods_law l p c =
    keeps (All OfMethod) OfOptions (each method_option_in (options_of (codes "METHOD") l))
    (λ ms. Some (record { precedence = p; combination = c; methods = ms }))
    (all_of_each OfMethod method_option_in option_law (options_of (codes "METHOD") l)) (λ ms ps. ps)

options_law : (l : Dats) → IfSome (generic_options_in l) OfOptions
options_law l =
    passes OfOptions (each generic_option_in l) (λ known. with_documentation l)
    (λ known. passes OfOptions (option_in documentation_option_in (codes "DOCUMENTATION") l) (λ d. with_precedence l)
    (λ d. passes OfOptions (option_in symbols_in (codes "ARGUMENT-PRECEDENCE-ORDER") l) (λ p. with_combination l p)
    (λ p. passes OfOptions (option_in combination_use_in (codes "METHOD-COMBINATION") l) (λ c. with_methods l p c)
    (λ c. methods_law l p c))))

abbrev fitting : FunctionName → LambdaList → GenericOptions → Option GenericDefinition
fitting n l os = if fits l.required os.precedence then Some (generic n l os) else None

generic_with_law : (name parameters : Dat) (l : Dats) → IfSome (generic_with name parameters l) OfGeneric
generic_with_law name parameters l =
    passes OfGeneric (new_function_in name) (λ n. generic_lambda_list_in parameters >>= λ r. generic_options_in l >>= λ os. fitting n r os)
    (λ n. keeps OfLambdaList OfGeneric (generic_lambda_list_in parameters) (λ r. generic_options_in l >>= λ os. fitting n r os) (generic_lambda_list_law parameters)
    (λ r q. keeps OfOptions OfGeneric (generic_options_in l) (λ os. fitting n r os) (options_law l)
    (λ os ps. either OfGeneric (fits r.required os.precedence) (Some (generic n r os)) None (q, ps) tt)))

pub generic_law : (l : Dats) → IfSome (generic_in l) OfGeneric
generic_law nil = tt
generic_law (cons name nil) = tt
generic_law (cons name (cons parameters l)) = generic_with_law name parameters l

-- ---- classes

initform_law : (text : List ℕ) (l : Dats) → IfSome (value_in form_in text l) HasInit
initform_law text l =
    keeps (All IsPlain) HasInit (each form_in (values_of text l)) single (all_of_each IsPlain form_in form_law (values_of text l)) (single_law IsPlain)

abbrev slot : Name → List Name → List Accessor → Option Form → Option Allocation → SlotSpecifier
slot n initargs accessors i a = record { name = n; initargs = initargs; accessors = accessors; initform = i; allocation = or_instance a }

-- what initargs read of a slot after its initform
abbrev with_initform : Name → Dats → List Name → List Accessor → Option Form → Option SlotSpecifier
with_initform n l initargs accessors i =
    value_in allocation_in (codes "ALLOCATION") l
    >>= λ a. value_in anything (codes "TYPE") l
    >>= λ t. value_in documentation_in (codes "DOCUMENTATION") l
    >>= λ d. Some (slot n initargs accessors i a)

with_initform_law : (n : Name) (l : Dats) (initargs : List Name) (accessors : List Accessor) (i : Option Form) → HasInit i → IfSome (with_initform n l initargs accessors i) OfSlot
with_initform_law n l initargs accessors i h =
    passes OfSlot (value_in allocation_in (codes "ALLOCATION") l)
    (λ a. value_in anything (codes "TYPE") l >>= λ t. value_in documentation_in (codes "DOCUMENTATION") l >>= λ d. Some (slot n initargs accessors i a))
    (λ a. passes OfSlot (value_in anything (codes "TYPE") l) (λ t. value_in documentation_in (codes "DOCUMENTATION") l >>= λ d. Some (slot n initargs accessors i a))
    (λ t. passes OfSlot (value_in documentation_in (codes "DOCUMENTATION") l) (λ d. Some (slot n initargs accessors i a)) (λ d. h)))

slot_from_law : (n : Name) (l : Dats) → IfSome (slot_from n l) OfSlot
slot_from_law n l =
    passes OfSlot (each symbol_in (values_of (codes "INITARG") l))
    (λ initargs. accessors_in l >>= λ accessors. value_in form_in (codes "INITFORM") l >>= λ i. with_initform n l initargs accessors i)
    (λ initargs. passes OfSlot (accessors_in l) (λ accessors. value_in form_in (codes "INITFORM") l >>= λ i. with_initform n l initargs accessors i)
    (λ accessors. keeps HasInit OfSlot (value_in form_in (codes "INITFORM") l) (λ i. with_initform n l initargs accessors i) (initform_law (codes "INITFORM") l)
    (λ i h. with_initform_law n l initargs accessors i h)))

slot_with_law : (n : Name) (l : Dats) → IfSome (slot_with n l) OfSlot
slot_with_law n l = either OfSlot (are_slot_options l) (slot_from n l) None (slot_from_law n l) tt

listed_slot_law : (l : Dats) → IfSome (listed_slot l) OfSlot
listed_slot_law nil = tt
listed_slot_law (cons name l) = passes OfSlot (symbol_in name) (λ n. slot_with n l) (λ n. slot_with_law n l)

slot_law : (d : Dat) → IfSome (slot_in d) OfSlot
slot_law (integer n) = tt
slot_law (symbol name) = slot_with_law name nil
slot_law (string s) = tt
slot_law (list l) = listed_slot_law l
slot_law (dotted l d) = tt
slot_law (method n) = tt

slots_law : (d : Dat) → IfSome (slots_in d) (All OfSlot)
slots_law d =
    keeps (All OfSlot) (All OfSlot) (list_in d >>= each slot_in) if_distinct_slots
    (passes (All OfSlot) (list_in d) (each slot_in) (all_of_each OfSlot slot_in slot_law))
    (λ ss p. either (All OfSlot) (are_distinct (slot_names ss)) (Some ss) None p tt)

default_law : (k v : Dat) → IfSome (default_with k v) OfDefault
default_law k v =
    passes OfDefault (symbol_in k) (λ n. form_in v >>= λ f. Some (record { name = n; form = f }))
    (λ n. keeps IsPlain OfDefault (form_in v) (λ f. Some (record { name = n; form = f })) (form_law v) (λ f p. p))

defaults_from_law : (l : Dats) → IfSome (defaults_from l) (All OfDefault)
defaults_from_law nil = All-nil OfDefault
defaults_from_law (cons k nil) = tt
defaults_from_law (cons k (cons v l)) =
    keeps OfDefault (All OfDefault) (default_with k v) (λ x. defaults_from l >>= λ xs. Some (x ∷ xs)) (default_law k v)
    (λ x p. keeps (All OfDefault) (All OfDefault) (defaults_from l) (λ xs. Some (x ∷ xs)) (defaults_from_law l) (λ xs ps. All-cons OfDefault x xs p ps))

defaults_law : (d : Dat) → IfSome (defaults_in d) (All OfDefault)
defaults_law d =
    keeps (All OfDefault) (All OfDefault) (arguments_in d >>= defaults_from) if_distinct_defaults
    (passes (All OfDefault) (arguments_in d) defaults_from defaults_from_law)
    (λ ds p. either (All OfDefault) (are_distinct (default_names ds)) (Some ds) None p tt)

abbrev MayHaveDefaults : Option (List DefaultInitarg) → Type 0
MayHaveDefaults o = IfSome o (All OfDefault)

default_option_law : (text : List ℕ) (l : Dats) → IfSome (option_in defaults_in text l) MayHaveDefaults
default_option_law text l =
    keeps (All (All OfDefault)) MayHaveDefaults (each defaults_in (options_of text l)) single
    (all_of_each (All OfDefault) defaults_in defaults_law (options_of text l)) (single_law (All OfDefault))

none_or_all : (o : Option (List DefaultInitarg)) → MayHaveDefaults o → All OfDefault (or_none o)
none_or_all None h = All-nil OfDefault
none_or_all (Some ds) h = h

class_options_law : (l : Dats) → IfSome (class_options_in l) (All OfDefault)
class_options_law l =
    passes (All OfDefault) (each class_option_in l)
    (λ known. option_in documentation_option_in (codes "DOCUMENTATION") l >>= λ d. option_in metaclass_in (codes "METACLASS") l >>= λ m. option_in defaults_in (codes "DEFAULT-INITARGS") l >>= λ ds. Some (or_none ds))
    (λ known. passes (All OfDefault) (option_in documentation_option_in (codes "DOCUMENTATION") l)
    (λ d. option_in metaclass_in (codes "METACLASS") l >>= λ m. option_in defaults_in (codes "DEFAULT-INITARGS") l >>= λ ds. Some (or_none ds))
    (λ d. passes (All OfDefault) (option_in metaclass_in (codes "METACLASS") l) (λ m. option_in defaults_in (codes "DEFAULT-INITARGS") l >>= λ ds. Some (or_none ds))
    (λ m. keeps MayHaveDefaults (All OfDefault) (option_in defaults_in (codes "DEFAULT-INITARGS") l) (λ ds. Some (or_none ds))
    (default_option_law (codes "DEFAULT-INITARGS") l) none_or_all)))

abbrev class : Name → List Name → List SlotSpecifier → List DefaultInitarg → ClassDefinition
class n cs ss ds = record { name = n; superclasses = cs; slots = ss; defaults = ds }

class_with_law : (name superclasses slots : Dat) (l : Dats) → IfSome (class_with name superclasses slots l) OfClass
class_with_law name superclasses slots l =
    passes OfClass (new_class_in name) (λ n. superclasses_in superclasses >>= λ cs. slots_in slots >>= λ ss. class_options_in l >>= λ ds. Some (class n cs ss ds))
    (λ n. passes OfClass (superclasses_in superclasses) (λ cs. slots_in slots >>= λ ss. class_options_in l >>= λ ds. Some (class n cs ss ds))
    (λ cs. keeps (All OfSlot) OfClass (slots_in slots) (λ ss. class_options_in l >>= λ ds. Some (class n cs ss ds)) (slots_law slots)
    (λ ss p. keeps (All OfDefault) OfClass (class_options_in l) (λ ds. Some (class n cs ss ds)) (class_options_law l) (λ ds q. (p, q)))))

pub class_law : (l : Dats) → IfSome (class_in l) OfClass
class_law nil = tt
class_law (cons name nil) = tt
class_law (cons name (cons superclasses nil)) = tt
class_law (cons name (cons superclasses (cons slots l))) = class_with_law name superclasses slots l

-- ---- functions and variables

abbrev function : FunctionName → LambdaList → Forms → FunctionDefinition
function n l fs = record { name = n; lambda_list = l; body = fs }

function_with_law : (name parameters : Dat) (body : Dats) → IfSome (function_with name parameters body) OfFunction
function_with_law name parameters body =
    passes OfFunction (new_function_in name) (λ n. lambda_list_in parameters >>= λ l. body_forms_of Plain body >>= λ fs. Some (function n l fs))
    (λ n. keeps OfLambdaList OfFunction (lambda_list_in parameters) (λ l. body_forms_of Plain body >>= λ fs. Some (function n l fs)) (lambda_list_law parameters)
    (λ l p. keeps (AllWell Plain) OfFunction (body_forms_of Plain body) (λ fs. Some (function n l fs)) (body_law Plain body) (λ fs q. (p, q))))

pub function_law : (l : Dats) → IfSome (function_in l) OfFunction
function_law nil = tt
function_law (cons name nil) = tt
function_law (cons name (cons parameters body)) = function_with_law name parameters body

documented_law : (l : Dats) (init : Dat) → IfSome (documented l init) IsPlain
documented_law l init =
    passes IsPlain (at_most_one l) (λ d. if is_documentation d then form_of Plain init else None)
    (λ d. either IsPlain (is_documentation d) (form_of Plain init) None (form_law init) tt)

init_law : (definer : Definer) (l : Dats) → IfSome (init_in definer l) HasInit
init_law DefVar nil = tt
init_law DefParameter nil = tt
init_law DefVar (cons init l) = keeps IsPlain HasInit (documented l init) (λ f. Some (Some f)) (documented_law l init) (λ f p. p)
init_law DefParameter (cons init l) = keeps IsPlain HasInit (documented l init) (λ f. Some (Some f)) (documented_law l init) (λ f p. p)

pub variable_law : (definer : Definer) (l : Dats) → IfSome (variable_definition_in definer l) OfVariable
variable_law definer nil = tt
variable_law definer (cons name l) =
    passes OfVariable (variable_in name) (λ n. init_in definer l >>= λ f. Some (record { definer = definer; name = n; form = f }))
    (λ n. keeps HasInit OfVariable (init_in definer l) (λ f. Some (record { definer = definer; name = n; form = f })) (init_law definer l) (λ f p. p))
