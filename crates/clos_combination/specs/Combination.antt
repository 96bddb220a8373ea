-- The definitions of method combinations (HyperSpec 7.7 define-method-combination).
use Rattle.std.specs.Prelude.{ℕ, List, [], ◌∷◌, Bool, true, codes, Option, Some, None, if◌then◌else◌}
use Rattle.lisp_data.specs.Name.{Name}
use Rattle.lisp_data.specs.Datum.{Dat, Dats, nil, cons}
use Rattle.clos_forms.specs.Fault.{◌>>=◌}
use Rattle.clos_forms.specs.FunctionName.{symbol_in}
use Rattle.clos_lambda.specs.Property.{are_properties, documentation_in, value_in}
use Rattle.clos_combination.specs.Group.{are_ordered, groups_in}
use Rattle.clos_combination.specs.Keyword.{flag_in, is_keyword, or_false}
use Rattle.clos_combination.specs.Parameter.{parameter_names, parameters_in}
use Rattle.clos_template.specs.Grammar.{body_template_of}
use Rattle.clos_combination.specs.declared.group.GroupSpecifier.{GroupSpecifier}
use Rattle.clos_combination.specs.declared.parameter.Parameters.{Parameters}
use Rattle.clos_combination.specs.declared.combination.CombinationDefinition.{CombinationDefinition}
use Rattle.clos_combination.specs.declared.combination.CombinationDefinition.TheVariants.{Short, Long}
use Rattle.clos_combination.specs.declared.combination.LongForm.{LongForm}
use Rattle.clos_combination.specs.declared.combination.ShortForm.{ShortForm}

-- ---- the short form

-- the options of a short form
abbrev pub short_keys : List (List ℕ)
short_keys = codes "DOCUMENTATION" ∷ codes "IDENTITY-WITH-ONE-ARGUMENT" ∷ codes "OPERATOR" ∷ []

-- the operator, which is the name of the combination where none is given
abbrev pub or_name : Name → Option Name → Name
or_name name None = name
or_name name (Some operator) = operator

-- what the options say, none of which stands twice
abbrev pub short_from : Name → Dats → Option ShortForm
short_from name l =
    value_in documentation_in (codes "DOCUMENTATION") l
    >>= λ documentation. value_in symbol_in (codes "OPERATOR") l
    >>= λ operator. value_in flag_in (codes "IDENTITY-WITH-ONE-ARGUMENT") l
    >>= λ identity. Some (record { name = name; operator = or_name name operator; identity = or_false identity })

-- keywords and values in turn
abbrev pub short_with : Name → Dats → Option ShortForm
short_with name l = if are_properties short_keys l then short_from name l else None

-- ---- the long form

-- a template, for groups whose orders are those of the parameters
abbrev pub long_of : Name → Parameters → List GroupSpecifier → Dats → Option LongForm
long_of name ps gs body = body_template_of body >>= λ t. Some (record { name = name; parameters = ps; groups = gs; template = t })

-- parameters and groups whose orders are theirs, and a template
abbrev pub long_from : Name → Dat → Dat → Dats → Option LongForm
long_from name parameters groups body =
    parameters_in parameters
    >>= λ ps. groups_in groups
    >>= λ gs. if are_ordered (parameter_names ps) gs then long_of name ps gs body else None

-- parameters, groups, and templates
abbrev pub long_with : Name → Dats → Option LongForm
long_with name nil = None
long_with name (cons parameters nil) = None
long_with name (cons parameters (cons groups body)) = long_from name parameters groups body

-- ---- both

-- the short form has nothing after the name, or a keyword
abbrev pub is_short : Dats → Bool
is_short nil = true
is_short (cons d l) = is_keyword d

-- a short or a long form of this name
abbrev pub combination_with : Name → Dats → Option CombinationDefinition
combination_with name l =
    if is_short l then (short_with name l >>= λ s. Some (Short s)) else (long_with name l >>= λ f. Some (Long f))

-- what follows DEFINE-METHOD-COMBINATION: a name, and a short or a long form
abbrev pub combination_in : Dats → Option CombinationDefinition
combination_in nil = None
combination_in (cons name l) = symbol_in name >>= λ n. combination_with n l
