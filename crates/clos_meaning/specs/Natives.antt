-- Calls of functions that the host stored.
use Rattle.std.specs.Prelude.{ℕ, ◌==◌, ℤ, List, [], ◌∷◌, length, Option, Some, None, Result, Ok, Err, if◌then◌else◌}
use Rattle.lisp_data.specs.Name.{Name}
use Rattle.lisp_data.specs.Value.{Val, integer, symbol, string, list, class, generic, method, instance}
use Rattle.clos_forms.specs.Quotation.{name_value}
use Rattle.clos_world.specs.declared.condition.ConditionKind.TheVariants.{ProgramError, TypeError, UnknownNative}
use Rattle.clos_meaning.specs.ClassFunctions.{symbol_in}
use Rattle.clos_meaning.specs.Outcome.{Asked, Gave, Looked, Run, step_then, stopped}

-- the integer that a value is
abbrev pub integer_in : Val → Option ℤ
integer_in (integer n) = Some n
integer_in (symbol name) = None
integer_in (string s) = None
integer_in (list l) = None
integer_in (class c) = None
integer_in (generic g) = None
integer_in (method m) = None
integer_in (instance i) = None

-- one more integer, unless it is none
abbrev pub with_first : Val → Option ℤ → Result (List ℤ) Val → Result (List ℤ) Val
with_first v None r = Err v
with_first v (Some n) (Ok ns) = Ok (n ∷ ns)
with_first v (Some n) (Err u) = Err u

-- the integers that these values are, or the leftmost that is none
abbrev pub integers_in : List Val → Result (List ℤ) Val
integers_in [] = Ok []
integers_in (v ∷ vs) = with_first v (integer_in v) (integers_in vs)

-- the answer is given
abbrev pub answer_given : Name → List ℤ → Run
answer_given name xs w s = Asked name xs (λ x. Gave (integer x) w s)

-- the call takes one step
abbrev pub integers_given : Name → Result (List ℤ) Val → Run
integers_given name (Err v) w s = stopped TypeError (v ∷ []) w s
integers_given name (Ok xs) w s = step_then (answer_given name xs) w s

-- a function that takes so many integers, if there is one
abbrev pub native_found : Name → List Val → Option ℕ → Run
native_found name vs None w s = stopped UnknownNative (name_value name ∷ []) w s
native_found name vs (Some n) w s = if length vs == n then integers_given name (integers_in vs) w s else stopped ProgramError [] w s

-- the function of this name
abbrev pub native_sought : Name → List Val → Run
native_sought name vs w s = Looked name (λ n. native_found name vs n w s)

-- a symbol names it
abbrev pub native_named : Val → Option Name → List Val → Run
native_named v None vs w s = stopped TypeError (v ∷ []) w s
native_named v (Some name) vs w s = native_sought name vs w s

-- the first value names the function, the others are its arguments
abbrev pub native_called : List Val → Run
native_called [] w s = stopped ProgramError [] w s
native_called (v ∷ vs) w s = native_named v (symbol_in v) vs w s
