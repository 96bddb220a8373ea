-- Lambda lists (HyperSpec 3.4.1, 3.4.2, 3.4.3).
use Rattle.std.specs.Prelude.{List, [], ◌∷◌, ◌++◌, Bool, true, false, ◌||◌, codes, Option, Some, None, is_some, if◌then◌else◌}
use Rattle.std.specs.List.{list_any}
use Rattle.lisp_data.specs.Name.{Name}
use Rattle.lisp_data.specs.Datum.{Dat, integer, symbol, string, list, dotted, method, Dats, nil, cons}
use Rattle.clos_forms.specs.Binding.{each}
use Rattle.clos_forms.specs.Distinct.{are_distinct}
use Rattle.clos_forms.specs.Fault.{◌>>=◌}
use Rattle.clos_forms.specs.FunctionName.{symbol_in, variable_in}
use Rattle.clos_forms.specs.Grammar.{form_of}
use Rattle.clos_forms.specs.Part.{at_most_one, only_in}
use Rattle.clos_forms.specs.declared.part.Context.TheVariants.{Plain}
use Rattle.clos_forms.specs.Sequence.{the_one}
use Rattle.clos_lambda.specs.Lists.{list_in}
use Rattle.clos_lambda.specs.Sections.{is_lambda_list_keyword, is_symbol_called, front, back, after, past}
use Rattle.clos_lambda.specs.declared.lambda_list.Optional.{Optional}
use Rattle.clos_lambda.specs.declared.lambda_list.Key.{Key}
use Rattle.clos_lambda.specs.declared.lambda_list.Keys.{Keys}
use Rattle.clos_lambda.specs.declared.lambda_list.LambdaList.{LambdaList}

-- a name other than the lambda list keywords, also than those that are not served
abbrev pub unless_keyword : Name → Option Name
unless_keyword name = if is_lambda_list_keyword name then None else Some name

-- a variable of a lambda list: a symbol that may be bound, and no lambda list keyword
abbrev pub parameter_in : Dat → Option Name
parameter_in d = variable_in d >>= unless_keyword

-- ---- &optional

-- v alone: no init form, and no variable that tells whether there is an argument
abbrev pub bare : Name → Optional
bare name = record { name = name; init = None; given = None }

-- the variable that tells whether there is an argument, where one is written
abbrev pub given_in : Option Dat → Option (Option Name)
given_in None = Some None
given_in (Some d) = parameter_in d >>= λ n. Some (Some n)

-- what may follow the variable: an init form, and then a variable that tells whether there is an argument
abbrev pub optional_with : Name → Dats → Option Optional
optional_with name nil = Some (bare name)
optional_with name (cons init rest) =
    form_of Plain init >>= λ f. at_most_one rest >>= given_in >>= λ g. Some (record { name = name; init = Some f; given = g })

-- (v), (v init) or (v init given)
abbrev pub listed_optional : Dats → Option Optional
listed_optional nil = None
listed_optional (cons v rest) = parameter_in v >>= λ n. optional_with n rest

-- v, (v), (v init) or (v init given)
abbrev pub optional_in : Dat → Option Optional
optional_in (integer n) = None
optional_in (symbol name) = parameter_in (symbol name) >>= λ n. Some (bare n)
optional_in (string s) = None
optional_in (list l) = listed_optional l
optional_in (dotted l d) = None
optional_in (method n) = None

-- the entries up to the next lambda list keyword; none where &optional is not written
abbrev pub optionals_in : Option Dats → Option (List Optional)
optionals_in None = Some []
optionals_in (Some section) = each optional_in (front section)

-- ---- &rest

-- exactly one variable up to the next lambda list keyword; none where &rest is not written (3.4.1.3)
abbrev pub rest_in : Option Dats → Option (Option Name)
rest_in None = Some None
rest_in (Some section) = each parameter_in (front section) >>= the_one >>= λ n. Some (Some n)

-- ---- &key

-- the keyword of the same characters, which names the argument where no other symbol does (3.4.1.4)
abbrev pub keyword_of : Name → Name
keyword_of name = record { text = name.text; keyword = true }

-- the symbol that names the argument, and what is written as of &optional
abbrev pub keyed : Name → Optional → Key
keyed keyword variable = record { keyword = keyword; variable = variable }

-- (name v), and what follows it
abbrev pub named_key : Dats → Dats → Option Key
named_key nil rest = None
named_key (cons name variable) rest =
    symbol_in name >>= λ k. only_in variable >>= parameter_in >>= λ n. optional_with n rest >>= λ o. Some (keyed k o)

-- v, and what follows it
abbrev pub plain_key : Name → Dats → Option Key
plain_key name rest = optional_with name rest >>= λ o. Some (keyed (keyword_of name) o)

-- v or (name v), and what follows it
abbrev pub key_with : Dat → Dats → Option Key
key_with (integer n) rest = None
key_with (symbol name) rest = parameter_in (symbol name) >>= λ n. plain_key n rest
key_with (string s) rest = None
key_with (list l) rest = named_key l rest
key_with (dotted l d) rest = None
key_with (method n) rest = None

-- (v ..) or ((name v) ..), where an init form and a further variable may follow
abbrev pub listed_key : Dats → Option Key
listed_key nil = None
listed_key (cons v rest) = key_with v rest

-- as of &optional, where the variable may be (name v)
abbrev pub key_in : Dat → Option Key
key_in (integer n) = None
key_in (symbol name) = parameter_in (symbol name) >>= λ n. plain_key n nil
key_in (string s) = None
key_in (list l) = listed_key l
key_in (dotted l d) = None
key_in (method n) = None

-- what may follow the section of &key: &allow-other-keys, and nothing more
abbrev pub allowing : Dats → Option Bool
allowing nil = Some false
allowing (cons d nil) = if is_symbol_called (codes "&ALLOW-OTHER-KEYS") d then Some true else None
allowing (cons d (cons e l)) = None

-- the last section, where there is one, and nothing more
abbrev pub keys_from : Option Dats → Dats → Option (Option Keys)
keys_from None nil = Some None
keys_from None (cons d l) = None
keys_from (Some section) l =
    each key_in (front section) >>= λ es. allowing (back section) >>= λ a. Some (Some (record { entries = es; allow_other_keys = a }))

-- ---- all sections

-- the variable, where one is written
abbrev pub names_in : Option Name → List Name
names_in None = []
names_in (Some n) = n ∷ []

-- its own, and the one that tells whether there is an argument
abbrev pub variables_of : Optional → List Name
variables_of o = o.name ∷ names_in o.given

-- those of all entries of &optional, in order
abbrev pub optional_variables : List Optional → List Name
optional_variables [] = []
optional_variables (o ∷ os) = variables_of o ++ optional_variables os

-- those of all entries of &key, in order
abbrev pub key_variables : List Key → List Name
key_variables [] = []
key_variables (k ∷ ks) = variables_of k.variable ++ key_variables ks

-- none where &key is not written
abbrev pub entries_of : Option Keys → List Key
entries_of None = []
entries_of (Some ks) = ks.entries

-- all that a call binds, in the order in which they are written
abbrev pub all_variables : LambdaList → List Name
all_variables l = l.required ++ (optional_variables l.optional ++ (names_in l.rest ++ key_variables (entries_of l.keys)))

-- no variable twice (3.4.1)
abbrev pub if_distinct : LambdaList → Option LambdaList
if_distinct l = if are_distinct (all_variables l) then Some l else None

-- the lambda list of these parameters and of what is left: nothing, or the section of &key
abbrev pub with_keys : List Name → List Optional → Option Name → Dats → Option LambdaList
with_keys required optional rest l =
    keys_from (after (codes "&KEY") l) l
    >>= λ keys. if_distinct (record { required = required; optional = optional; rest = rest; keys = keys })

-- the lambda list of these parameters and of what is left, which may begin with &rest
abbrev pub with_rest : List Name → List Optional → Dats → Option LambdaList
with_rest required optional l =
    rest_in (after (codes "&REST") l) >>= λ rest. with_keys required optional rest (past l (after (codes "&REST") l))

-- the lambda list of these required parameters, from the first lambda list keyword on
abbrev pub with_optionals : List Name → Dats → Option LambdaList
with_optionals required l =
    optionals_in (after (codes "&OPTIONAL") l) >>= λ optional. with_rest required optional (past l (after (codes "&OPTIONAL") l))

-- the required parameters up to the first lambda list keyword, and then the other sections
abbrev pub ordinary : Dats → Option LambdaList
ordinary l = each parameter_in (front l) >>= λ required. with_optionals required (back l)

-- an ordinary lambda list (3.4.1)
abbrev pub lambda_list_in : Dat → Option LambdaList
lambda_list_in d = list_in d >>= ordinary

-- whether a form gives the value where there is no argument
abbrev pub has_init : Optional → Bool
has_init o = is_some o.init

-- whether any entry of &optional or &key has one
abbrev pub has_inits : LambdaList → Bool
has_inits l = list_any has_init l.optional || list_any (λ k. has_init k.variable) (entries_of l.keys)

-- a generic function lambda list has no init forms (3.4.2)
abbrev pub generic_lambda_list_in : Dat → Option LambdaList
generic_lambda_list_in d = lambda_list_in d >>= λ l. if has_inits l then None else Some l
