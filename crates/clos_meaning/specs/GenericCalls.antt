-- Calls of generic functions (HyperSpec 7.6.5, 7.6.6).
use Rattle.std.specs.Prelude.{ℕ, ◌+◌, Bool, true, false, not, ◌&&◌, ◌||◌, List, [], ◌∷◌, Option, Some, None, drop, if◌then◌else◌, length, slice_get}
use Rattle.lisp_data.specs.Name.{Name}
use Rattle.lisp_data.specs.Value.{Val, generic, method, symbol}
use Rattle.clos_world.specs.clos_comb.Effective as comb
use Rattle.clos_world.specs.clos_comb.Outcome.{Combined, effective, invalid_method, group_empty, ambiguous_methods, bad_expansion, expansion_limit}
use Rattle.clos_world.specs.clos_generic.Calls.{accepts, allows_all, checks_keywords}
use Rattle.clos_world.specs.clos_generic.Table.{Function, Table}
use Rattle.clos_world.specs.clos_method.Shape.{takes_count}
use Rattle.clos_world.specs.clos_method.System.{system_number}
use Rattle.clos_world.specs.clos_method.declared.shape.Shape.{Shape}
use Rattle.clos_world.specs.clos_method.declared.system.SystemFunction.{SystemFunction}
use Rattle.clos_world.specs.clos_method.declared.system.SystemFunction.TheVariants.{NoApplicableMethod}
use Rattle.clos_world.specs.Dispatch.{ordered}
use Rattle.clos_world.specs.Keys.{key_of}
use Rattle.clos_world.specs.FunctionName.{called_value}
use Rattle.clos_world.specs.declared.condition.ConditionKind.TheVariants.{AmbiguousMethods, BadExpansion, ExpansionLimit, InvalidMethod, ProgramError, RequiredGroupEmpty}
use Rattle.clos_meaning.specs.Bodies.{scoped}
use Rattle.clos_meaning.specs.ClassFunctions.{symbol_in}
use Rattle.clos_meaning.specs.Contexts.{Context, in_call}
use Rattle.clos_meaning.specs.Outcome.{Noted, Run, Eval, stopped, used}
use Rattle.clos_meaning.specs.Parameters.{are_pairs, is_allowing}

-- ---- keyword arguments, where these methods are applicable (7.6.5)

-- the arguments after those of required and optional parameters
abbrev pub after_positional : Shape → List Val → List Val
after_positional s vs = drop (s.required + s.optional) vs

-- a symbol, where it is accepted as a name (7.6.5); another value in the place of a name never is
abbrev pub is_accepted : Table → ℕ → List ℕ → Option Name → Bool
is_accepted t g ms None = false
is_accepted t g ms (Some name) = accepts t g ms name

-- whether each of these names is accepted
abbrev pub are_accepted : Table → ℕ → List ℕ → List Val → Bool
are_accepted t g ms [] = true
are_accepted t g ms (k ∷ []) = true
are_accepted t g ms (k ∷ (v ∷ vs)) = is_accepted t g ms (symbol_in k) && are_accepted t g ms vs

-- pairs, of which each name is accepted, unless a lambda list or the call itself allows all names
abbrev pub keys_fit : Table → ℕ → List ℕ → List Val → Bool
keys_fit t g ms vs = are_pairs vs && (allows_all t g ms || (is_allowing vs || are_accepted t g ms vs))

-- nothing is checked where neither the function nor one of the methods has &key
abbrev pub keywords_fit : Table → ℕ → List ℕ → List Val → Bool
keywords_fit t g ms vs = not (checks_keywords t g ms) || keys_fit t g ms vs

-- ---- the effective method (7.6.6)

-- the form into which the methods are combined is evaluated, with no variables, or there is none
abbrev pub combined_run : Eval → Context → Function → Combined → Run
combined_run ev env f (effective e) w s = scoped (ev env e) [] w s
combined_run ev env f (invalid_method m) w s = stopped InvalidMethod (method m ∷ []) w s
combined_run ev env f (group_empty name) w s = stopped RequiredGroupEmpty (called_value f.name ∷ symbol name ∷ []) w s
combined_run ev env f (ambiguous_methods m n) w s = stopped AmbiguousMethods (method m ∷ method n ∷ []) w s
combined_run ev env f bad_expansion w s = stopped BadExpansion (called_value f.name ∷ []) w s
combined_run ev env f expansion_limit w s = stopped ExpansionLimit (called_value f.name ∷ []) w s

-- a call for which these methods are applicable
abbrev pub matched : Eval → List Val → ℕ → Function → List ℕ → Run
matched ev vs g f ms w s =
    if keywords_fit w.generics g ms (after_positional f.shape vs)
    then combined_run ev (in_call (record { generic = g; methods = ms }) vs) f (comb.effective w.combinations w.generics g ms) w s
    else stopped ProgramError [] w s

-- where there are any
abbrev pub matched_or : Eval → List Val → ℕ → Function → Run → List ℕ → Run
matched_or ev vs g f other [] w s = other w s
matched_or ev vs g f other (m ∷ ms) w s = matched ev vs g f (m ∷ ms) w s

-- ---- no-applicable-method, whose own method takes any arguments

-- it is called like any generic function: the program may have methods on it
abbrev pub unmatched_by : Eval → List Val → Option Function → Run
unmatched_by ev vs None w s = stopped ProgramError [] w s
unmatched_by ev vs (Some f) w s =
    Noted (used (key_of w (system_number NoApplicableMethod) vs))
    (matched_or ev vs (system_number NoApplicableMethod) f (stopped ProgramError []) (ordered w (system_number NoApplicableMethod) vs) w s)

-- a generic function has no method for these arguments
abbrev pub unmatched : Eval → ℕ → List Val → Run
unmatched ev g vs w s = unmatched_by ev (generic g ∷ vs) (slice_get w.generics.functions (system_number NoApplicableMethod)) w s

-- ---- the call: the number of arguments, the applicable methods, keywords, the effective method

-- the generic function of this number
abbrev pub called_generic : Eval → List Val → ℕ → Option Function → Run
called_generic ev vs g None w s = stopped ProgramError [] w s
called_generic ev vs g (Some f) w s =
    if takes_count f.shape (length vs)
    then Noted (used (key_of w g vs)) (matched_or ev vs g f (unmatched ev g vs) (ordered w g vs) w s)
    else stopped ProgramError [] w s

-- the system's function
abbrev pub invoked : Eval → SystemFunction → List Val → Run
invoked ev f vs w s = called_generic ev vs (system_number f) (slice_get w.generics.functions (system_number f)) w s
