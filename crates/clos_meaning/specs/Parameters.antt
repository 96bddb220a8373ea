-- What the parameters of a function are bound to (HyperSpec 3.4.1, 3.5.1).
use Rattle.std.specs.Prelude.{nat_le, Bool, true, false, ◌&&◌, ◌||◌, List, [], ◌∷◌, ◌++◌, Option, Some, None, is_some, is_none, Result, Ok, Err, codes, drop, length, if◌then◌else◌}
use Rattle.std.specs.List.{list_any}
use Rattle.std.specs.Str.{bytes_eq}
use Rattle.lisp_data.specs.Name.{Name, same_name}
use Rattle.lisp_data.specs.Value.{Val, symbol, list, nil}
use Rattle.lisp_prims.specs.Fault as prims
use Rattle.lisp_prims.specs.Predicates.{is_symbol}
use Rattle.lisp_prims.specs.Primitive.{answer, truth}
use Rattle.lisp_prims.specs.lisp_functions.declared.lists.ListFunction.TheVariants as lists
use Rattle.lisp_prims.specs.lisp_functions.declared.primitive.Primitive.TheVariants.{Listed}
use Rattle.clos_forms.specs.Form.{Form}
use Rattle.clos_world.specs.clos_lambda.declared.lambda_list.Key.{Key}
use Rattle.clos_world.specs.clos_lambda.declared.lambda_list.Keys.{Keys}
use Rattle.clos_world.specs.clos_lambda.declared.lambda_list.LambdaList.{LambdaList}
use Rattle.clos_world.specs.clos_lambda.declared.lambda_list.Optional.{Optional}
use Rattle.clos_world.specs.Condition.{nil_name}
use Rattle.clos_world.specs.declared.condition.Condition.{Condition}
use Rattle.clos_meaning.specs.Fault.{condition_of}
use Rattle.clos_meaning.specs.Outcome.{is_true}

-- ---- the arguments of keyword parameters: names, each with its argument (3.4.1.4)

-- in pairs, of which the first is a symbol
abbrev pub are_pairs : List Val → Bool
are_pairs [] = true
are_pairs (k ∷ []) = false
are_pairs (k ∷ (v ∷ vs)) = is_symbol k && are_pairs vs

-- in pairs, whatever the first of each is
abbrev pub are_even : List Val → Bool
are_even [] = true
are_even (k ∷ []) = false
are_even (k ∷ (v ∷ vs)) = are_even vs

-- the symbol of this name; NIL is the empty list
abbrev pub is_symbol_named : Name → Val → Bool
is_symbol_named name (symbol n) = same_name n name
is_symbol_named name (list nil) = same_name nil_name name
is_symbol_named name v = false

-- the leftmost argument whose name is one of those looked for
abbrev pub argument_by : (Val → Bool) → List Val → Option Val
argument_by is_name [] = None
argument_by is_name (k ∷ []) = None
argument_by is_name (k ∷ (v ∷ vs)) = if is_name k then Some v else argument_by is_name vs

-- the argument after this name; where the name stands twice, the leftmost one counts
abbrev pub argument_named : Name → List Val → Option Val
argument_named name vs = argument_by (is_symbol_named name) vs

-- the symbol :ALLOW-OTHER-KEYS
abbrev pub is_allow_other_keys : Val → Bool
is_allow_other_keys (symbol n) = n.keyword && bytes_eq n.text (codes "ALLOW-OTHER-KEYS")
is_allow_other_keys v = false

-- an argument that is there and is true; one that is missing counts as NIL
abbrev pub holds : Option Val → Bool
holds None = false
holds (Some v) = is_true v

-- whether a call allows names that no parameter has (3.4.1.4.1)
abbrev pub is_allowing : List Val → Bool
is_allowing vs = holds (argument_by is_allow_other_keys vs)

-- a parameter's name, or :ALLOW-OTHER-KEYS
abbrev pub is_accepted : List Key → Val → Bool
is_accepted ks v = is_allow_other_keys v || list_any (λ k. is_symbol_named k.keyword v) ks

-- the name of each pair; a last name without an argument is not looked at here
abbrev pub are_accepted : List Key → List Val → Bool
are_accepted ks [] = true
are_accepted ks (k ∷ []) = true
are_accepted ks (k ∷ (v ∷ vs)) = is_accepted ks k && are_accepted ks vs

-- without &key any arguments do; else pairs, of names that are accepted, unless all names are allowed
abbrev pub keys_fit : Option Keys → List Val → Bool
keys_fit None vs = true
keys_fit (Some ks) vs = are_pairs vs && (ks.allow_other_keys || (is_allowing vs || are_accepted ks.entries vs))

-- ---- whether a function takes these arguments (3.5.1)

-- the arguments after those of the required parameters, and after those of the optional ones
abbrev pub after_required : LambdaList → List Val → List Val
after_required l vs = drop (length l.required) vs

-- those that are left for &rest and &key, which both see all of them
abbrev pub after_optional : LambdaList → List Val → List Val
after_optional l vs = drop (length l.optional) (after_required l vs)

-- neither too few nor too many
abbrev pub count_fits : LambdaList → List Val → Bool
count_fits l vs =
    nat_le (length l.required) (length vs)
    && (is_some l.rest || (is_some l.keys || nat_le (length (after_required l vs)) (length l.optional)))

-- as many arguments as it takes, and of keyword arguments only those that it takes
abbrev pub fits : LambdaList → List Val → Bool
fits l vs = count_fits l vs && keys_fit l.keys (after_optional l vs)

-- nothing in a list: a lambda list without such parameters, or a method without next methods
abbrev pub is_empty : {A : Type 0} → List A → Bool
is_empty [] = true
is_empty (x ∷ xs) = false

-- a lambda list without &optional, &rest and &key: an argument for each variable, and no init forms
abbrev pub requires_only : LambdaList → Bool
requires_only l = is_empty l.optional && is_none l.rest && is_none l.keys

-- ---- what each parameter is bound to

-- a value that is there, a list that can't be made, or what a form gives
pub data Source : Type 0 where
  argument : Val → Source
  refused : Condition → Source
  init : Form → Source

-- the variables in the order in which they are bound, each with where its value comes from
abbrev pub Sources : Type 0
Sources = List (Name × Source)

-- each has the argument at its place; variables past the last argument have none
abbrev pub required_sources : List Name → List Val → Sources
required_sources [] vs = []
required_sources (n ∷ ns) [] = []
required_sources (n ∷ ns) (v ∷ vs) = (n, argument v) ∷ required_sources ns vs

-- of a parameter without an argument: its init form, or NIL where none is written (3.4.1.2)
abbrev pub init_source : Option Form → Source
init_source None = argument (list nil)
init_source (Some f) = init f

-- the variable that tells whether there is an argument
abbrev pub given_source : Option Name → Bool → Sources
given_source None b = []
given_source (Some n) b = (n, argument (truth b)) ∷ []

-- the variable, and after it its supplied-p-parameter, where one is written (3.4.1.2)
abbrev pub variable_sources : Optional → Option Val → Sources
variable_sources o None = (o.name, init_source o.init) ∷ given_source o.given false
variable_sources o (Some v) = (o.name, argument v) ∷ given_source o.given true

-- the first of the arguments, where there is one, and the others
abbrev pub first_and_others : List Val → Option Val × List Val
first_and_others [] = (None, [])
first_and_others (v ∷ vs) = (Some v, vs)

-- an argument for each from left to right, as long as there are any
abbrev pub optional_sources : List Optional → List Val → Sources
optional_sources [] vs = []
optional_sources (o ∷ os) vs = variable_sources o (first_and_others vs).0 ++ optional_sources os (first_and_others vs).1

-- a list that was made, or the condition in its place where it is past the limits on lists
abbrev pub listed : Result Val prims.Condition → Source
listed (Ok v) = argument v
listed (Err c) = refused (condition_of c)

-- the list of the arguments that are left
abbrev pub rest_sources : Option Name → List Val → Sources
rest_sources None vs = []
rest_sources (Some n) vs = (n, listed (answer (Listed lists.List) vs)) ∷ []

-- each by its own name, wherever that stands among the arguments
abbrev pub entry_sources : List Key → List Val → Sources
entry_sources [] vs = []
entry_sources (k ∷ ks) vs = variable_sources k.variable (argument_named k.keyword vs) ++ entry_sources ks vs

-- those of the section &key; where it is not there, none
abbrev pub key_sources : Option Keys → List Val → Sources
key_sources None vs = []
key_sources (Some ks) vs = entry_sources ks.entries vs

-- all of them, from left to right
abbrev pub sources : LambdaList → List Val → Sources
sources l vs =
    required_sources l.required vs
    ++ (optional_sources l.optional (after_required l vs) ++ (rest_sources l.rest (after_optional l vs) ++ key_sources l.keys (after_optional l vs)))
