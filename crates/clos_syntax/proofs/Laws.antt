-- Each method that is read has a specializer for each required parameter.
use Rattle.std.proofs.Common.{◌≡◌, List, All, Option, Some, None, length, refl, ap, sym, ◌∙◌}
use Rattle.std.specs.Prelude.{IfSome, codes, if◌then◌else◌}
use Rattle.lisp_data.specs.Name.{Name}
use Rattle.lisp_data.specs.Datum.{Dat, Dats, nil, cons, length_of}
use Rattle.clos_forms.specs.Binding.{each}
use Rattle.clos_forms.specs.Distinct.{are_distinct}
use Rattle.clos_forms.specs.Fault.{◌>>=◌}
use Rattle.clos_forms.specs.Form.{Forms}
use Rattle.clos_forms.specs.Grammar.{body_forms_of}
use Rattle.clos_forms.specs.declared.operator.FunctionName.{FunctionName}
use Rattle.clos_forms.specs.declared.part.Context.TheVariants.{Method}
use Rattle.clos_lambda.specs.LambdaList.{all_variables, generic_lambda_list_in, if_distinct, keys_from, optionals_in, rest_in, with_keys, with_rest, with_optionals}
use Rattle.clos_lambda.specs.Lists.{list_in}
use Rattle.clos_lambda.specs.Sections.{after, back, front, past}
use Rattle.clos_lambda.specs.Property.{options_of, option_in, arguments_in}
use Rattle.clos_lambda.specs.declared.lambda_list.LambdaList.{LambdaList}
use Rattle.clos_lambda.specs.declared.lambda_list.Optional.{Optional}
use Rattle.clos_syntax.specs.Class.{documentation_option_in}
use Rattle.clos_syntax.specs.FunctionName.{new_function_in}
use Rattle.clos_syntax.specs.Generic.{combination_use_in, fits, generic, generic_in, generic_option_in, generic_options_in, generic_with, method_option_in, symbols_in}
use Rattle.clos_syntax.specs.Laws.{IsSpecialized}
use Rattle.clos_syntax.specs.Method.{method_in, method_with, past_qualifiers, qualified, qualifiers_in, required_in, specialized, specializer_in, specializers_in}
use Rattle.clos_syntax.specs.declared.generic.CombinationUse.{CombinationUse}
use Rattle.clos_syntax.specs.declared.generic.GenericDefinition.{GenericDefinition}
use Rattle.clos_syntax.specs.declared.generic.GenericOptions.{GenericOptions}
use Rattle.clos_syntax.specs.declared.method.MethodDefinition.{MethodDefinition}
use Rattle.clos_syntax.specs.declared.method.ParameterSpecializer.{ParameterSpecializer}
use Rattle.clos_syntax.proofs.WhereGiven.{passes, keeps, follows, either, one_for_each, all_of_each}

-- ---- lambda lists keep their required parameters

abbrev Requires : List Name → LambdaList → Type 0
Requires ns l = l.required ≡ ns

abbrev Counts : Dats → LambdaList → Type 0
Counts l r = length r.required ≡ length_of (front l)

keys_stay : (ns : List Name) (os : List Optional) (r : Option Name) (l : Dats) → IfSome (with_keys ns os r l) (Requires ns)
keys_stay ns os r l =
    passes (Requires ns) (keys_from (after (codes "&KEY") l) l) (λ ks. if_distinct (record { required = ns; optional = os; rest = r; keys = ks }))
    (λ ks. either (Requires ns) (are_distinct (all_variables (record { required = ns; optional = os; rest = r; keys = ks })))
    (Some (record { required = ns; optional = os; rest = r; keys = ks })) None refl tt)

rest_stays : (ns : List Name) (os : List Optional) (l : Dats) → IfSome (with_rest ns os l) (Requires ns)
rest_stays ns os l =
    passes (Requires ns) (rest_in (after (codes "&REST") l)) (λ r. with_keys ns os r (past l (after (codes "&REST") l)))
    (λ r. keys_stay ns os r (past l (after (codes "&REST") l)))

required_stay : (ns : List Name) (l : Dats) → IfSome (with_optionals ns l) (Requires ns)
required_stay ns l =
    passes (Requires ns) (optionals_in (after (codes "&OPTIONAL") l)) (λ os. with_rest ns os (past l (after (codes "&OPTIONAL") l)))
    (λ os. rest_stays ns os (past l (after (codes "&OPTIONAL") l)))

counted : (l : Dats) → IfSome (specialized l) (Counts l)
counted l =
    keeps (λ ns. length ns ≡ length_of (front l)) (Counts l) (each required_in (front l)) (λ ns. with_optionals ns (back l))
    (one_for_each required_in (front l))
    (λ ns q. follows (Requires ns) (Counts l) (with_optionals ns (back l)) (required_stay ns (back l)) (λ r e. ap length e ∙ q))

-- ---- methods

abbrev made : Dats → LambdaList → List ParameterSpecializer → Forms → MethodDefinition
made qualifiers l ss fs = record { qualifiers = qualifiers; lambda_list = l; specializers = ss; body = fs }

method_with_law : (qualifiers parameters body : Dats) → IfSome (method_with qualifiers parameters body) IsSpecialized
method_with_law qualifiers parameters body =
    keeps (Counts parameters) IsSpecialized (specialized parameters)
    (λ l. specializers_in parameters >>= λ ss. body_forms_of Method body >>= λ fs. Some (made qualifiers l ss fs)) (counted parameters)
    (λ l q. keeps (λ ss. length ss ≡ length_of (front parameters)) IsSpecialized (specializers_in parameters)
    (λ ss. body_forms_of Method body >>= λ fs. Some (made qualifiers l ss fs)) (one_for_each specializer_in (front parameters))
    (λ ss p. passes IsSpecialized (body_forms_of Method body) (λ fs. Some (made qualifiers l ss fs)) (λ fs. p ∙ sym q)))

qualified_law : (qualifiers l : Dats) → IfSome (qualified qualifiers l) IsSpecialized
qualified_law qualifiers nil = tt
qualified_law qualifiers (cons parameters body) =
    passes IsSpecialized (list_in parameters) (λ l. method_with qualifiers l body) (λ l. method_with_law qualifiers l body)

pub method_law : (l : Dats) → IfSome (method_in l) IsSpecialized
method_law l = qualified_law (qualifiers_in l) (past_qualifiers l)

-- ---- generic functions

abbrev OfOptions : GenericOptions → Type 0
OfOptions os = All IsSpecialized os.methods

abbrev OfGeneric : GenericDefinition → Type 0
OfGeneric g = All IsSpecialized g.methods

option_law : (d : Dat) → IfSome (method_option_in d) IsSpecialized
option_law d = passes IsSpecialized (arguments_in d) method_in method_law

abbrev with_methods : Dats → Option (List Name) → Option CombinationUse → Option GenericOptions
with_methods l precedence combination =
    each method_option_in (options_of (codes "METHOD") l)
    >>= λ ms. Some (record { precedence = precedence; combination = combination; methods = ms })

abbrev with_combination : Dats → Option (List Name) → Option GenericOptions
with_combination l precedence = option_in combination_use_in (codes "METHOD-COMBINATION") l >>= λ c. with_methods l precedence c

abbrev with_precedence : Dats → Option GenericOptions
with_precedence l = option_in symbols_in (codes "ARGUMENT-PRECEDENCE-ORDER") l >>= λ p. with_combination l p

abbrev with_documentation : Dats → Option GenericOptions
with_documentation l = option_in documentation_option_in (codes "DOCUMENTATION") l >>= λ d. with_precedence l

methods_law : (l : Dats) (p : Option (List Name)) (c : Option CombinationUse) → IfSome (with_methods l p c) OfOptions
methods_law l p c =
    keeps (All IsSpecialized) OfOptions (each method_option_in (options_of (codes "METHOD") l))
    (λ ms. Some (record { precedence = p; combination = c; methods = ms }))
    (all_of_each IsSpecialized method_option_in option_law (options_of (codes "METHOD") l)) (λ ms ps. ps)

options_law : (l : Dats) → IfSome (generic_options_in l) OfOptions
options_law l =
    passes OfOptions (each generic_option_in l) (λ known. with_documentation l)
    (λ known. passes OfOptions (option_in documentation_option_in (codes "DOCUMENTATION") l) (λ d. with_precedence l)
    (λ d. passes OfOptions (option_in symbols_in (codes "ARGUMENT-PRECEDENCE-ORDER") l) (λ p. with_combination l p)
    (λ p. passes OfOptions (option_in combination_use_in (codes "METHOD-COMBINATION") l) (λ c. with_methods l p c)
    (λ c. methods_law l p c))))

abbrev fitting : FunctionName → LambdaList → GenericOptions → Option GenericDefinition
fitting n l os = if fits l.required os.precedence then Some (generic n l os) else None

generic_with_law : (name parameters : Dat) (l : Dats) → IfSome (generic_with name parameters l) OfGeneric
generic_with_law name parameters l =
    passes OfGeneric (new_function_in name) (λ n. generic_lambda_list_in parameters >>= λ r. generic_options_in l >>= λ os. fitting n r os)
    (λ n. passes OfGeneric (generic_lambda_list_in parameters) (λ r. generic_options_in l >>= λ os. fitting n r os)
    (λ r. keeps OfOptions OfGeneric (generic_options_in l) (λ os. fitting n r os) (options_law l)
    (λ os ps. either OfGeneric (fits r.required os.precedence) (Some (generic n r os)) None ps tt)))

pub generic_law : (l : Dats) → IfSome (generic_in l) OfGeneric
generic_law nil = tt
generic_law (cons name nil) = tt
generic_law (cons name (cons parameters l)) = generic_with_law name parameters l
