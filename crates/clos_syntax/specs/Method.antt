-- Methods (HyperSpec 7.6.2, 3.4.3, 7.7 defmethod).
use Rattle.std.specs.Prelude.{List, Bool, true, false, not, codes, Option, Some, None, if◌then◌else◌}
use Rattle.lisp_data.specs.Name.{Name}
use Rattle.lisp_data.specs.Datum.{Dat, integer, symbol, string, list, dotted, method, Dats, nil, cons}
use Rattle.clos_forms.specs.Binding.{each}
use Rattle.clos_forms.specs.Fault.{◌>>=◌}
use Rattle.clos_forms.specs.Grammar.{form_of, body_forms_of}
use Rattle.clos_forms.specs.clos_names.Names.{is_called}
use Rattle.clos_forms.specs.Part.{only_in}
use Rattle.clos_forms.specs.declared.part.Context.TheVariants.{Plain, Method}
use Rattle.clos_lambda.specs.LambdaList.{parameter_in, with_optionals}
use Rattle.clos_lambda.specs.Lists.{list_in}
use Rattle.clos_lambda.specs.Sections.{is_symbol_called, front, back}
use Rattle.clos_lambda.specs.declared.lambda_list.LambdaList.{LambdaList}
use Rattle.clos_syntax.specs.declared.method.ParameterSpecializer.{ParameterSpecializer}
use Rattle.clos_syntax.specs.declared.method.ParameterSpecializer.TheVariants.{Class, Eql}
use Rattle.clos_syntax.specs.declared.method.MethodDefinition.{MethodDefinition}

-- ---- required parameters

abbrev pub specialized_name : Dats → Option Name
specialized_name nil = None
specialized_name (cons v nil) = None
specialized_name (cons v (cons s nil)) = parameter_in v
specialized_name (cons v (cons s (cons d l))) = None

-- the variable of v, or of (v specializer)
abbrev pub required_in : Dat → Option Name
required_in (integer n) = None
required_in (symbol name) = parameter_in (symbol name)
required_in (string s) = None
required_in (list l) = specialized_name l
required_in (dotted l d) = None
required_in (method n) = None

-- the class of all objects, of a parameter without a specializer
abbrev pub t_name : Name
t_name = record { text = codes "T"; keyword = false }

abbrev pub eql_specializer : Dats → Option ParameterSpecializer
eql_specializer nil = None
eql_specializer (cons head rest) =
    if is_symbol_called (codes "EQL") head then (only_in rest >>= form_of Plain >>= λ f. Some (Eql f)) else None

-- the name of a class, or (eql form)
abbrev pub specializer_named : Dat → Option ParameterSpecializer
specializer_named (integer n) = None
specializer_named (symbol name) = Some (Class name)
specializer_named (string s) = None
specializer_named (list l) = eql_specializer l
specializer_named (dotted l d) = None
specializer_named (method n) = None

abbrev pub listed_specializer : Dats → Option ParameterSpecializer
listed_specializer nil = None
listed_specializer (cons v rest) = only_in rest >>= specializer_named

-- the specializer of v, or of (v specializer)
abbrev pub specializer_in : Dat → Option ParameterSpecializer
specializer_in (integer n) = None
specializer_in (symbol name) = Some (Class t_name)
specializer_in (string s) = None
specializer_in (list l) = listed_specializer l
specializer_in (dotted l d) = None
specializer_in (method n) = None

-- ---- qualifiers

-- an atom other than NIL
abbrev pub is_qualifier : Dat → Bool
is_qualifier (integer n) = true
is_qualifier (symbol name) = not (is_called (codes "NIL") name)
is_qualifier (string s) = true
is_qualifier (list l) = false
is_qualifier (dotted l d) = false
is_qualifier (method n) = false

-- the qualifiers that lead a method's data
abbrev pub qualifiers_in : Dats → Dats
qualifiers_in nil = nil
qualifiers_in (cons d l) = if is_qualifier d then cons d (qualifiers_in l) else nil

-- what follows them: a specialized lambda list, and a body
abbrev pub past_qualifiers : Dats → Dats
past_qualifiers nil = nil
past_qualifiers (cons d l) = if is_qualifier d then past_qualifiers l else cons d l

-- ---- methods

abbrev pub specialized : Dats → Option LambdaList
specialized l = each required_in (front l) >>= λ required. with_optionals required (back l)

abbrev pub specializers_in : Dats → Option (List ParameterSpecializer)
specializers_in l = each specializer_in (front l)

abbrev pub method_with : Dats → Dats → Dats → Option MethodDefinition
method_with qualifiers parameters body =
    specialized parameters
    >>= λ l. specializers_in parameters
    >>= λ ss. body_forms_of Method body
    >>= λ fs. Some (record { qualifiers = qualifiers; lambda_list = l; specializers = ss; body = fs })

abbrev pub qualified : Dats → Dats → Option MethodDefinition
qualified qualifiers nil = None
qualified qualifiers (cons parameters body) = list_in parameters >>= λ l. method_with qualifiers l body

-- qualifiers, a specialized lambda list, and a body
abbrev pub method_in : Dats → Option MethodDefinition
method_in l = qualified (qualifiers_in l) (past_qualifiers l)
