-- Worked examples: what a few forms give and write, and in how many steps.
use Rattle.std.specs.Fmt.{digits}
use Rattle.std.specs.Prelude.{◌≡◌, ℕ, pos, false, true, List, [], ◌∷◌, ◌++◌, Some, None, codes, refl, if◌then◌else◌}
use Rattle.lisp_data.specs.Name.{Name, same_name}
use Rattle.lisp_data.specs.Value.{integer, symbol}
use Rattle.clos_forms.specs.Form.{Form, Forms, form, nil, cons}
use Rattle.clos_forms.specs.Operator as of
use Rattle.clos_world.specs.World.{State, unbound}
use Rattle.clos_world.specs.declared.condition.ConditionKind.TheVariants.{StepLimit}
use Rattle.clos_meaning.specs.Host.{Host, answered_by}
use Rattle.clos_meaning.specs.Meaning.{evaluation}
use Rattle.clos_meaning.specs.Outcome.{Gave, Given, Signalled, stopped}

abbrev name : List ℕ → Name
name text = record { text = text; keyword = false }

abbrev number : ℕ → Form
number n = form (of.constant (integer (pos n))) nil

abbrev alone : Form → Forms
alone f = cons f nil

abbrev princ : Form → Form
princ f = form (of.call (name (codes "PRINC"))) (alone f)

-- the state of a session after these bytes were written too
abbrev wrote : State → List ℕ → State
wrote w bytes = record w { written = w.written ++ bytes }

-- ---- (progn (princ 1) (princ 2)) takes a step for each of its five forms, and one for each writing

abbrev both : Form
both = form of.progn (cons (princ (number 1)) (alone (princ (number 2))))

-- the decimal digits of a number
abbrev decimal : ℕ → List ℕ
decimal n = digits 10 false n

both_are_written : (w : State) → evaluation 3 both w 7 ≡ Gave (integer (pos 2)) (wrote (wrote (unbound w) (decimal 1)) (decimal 2)) 0
both_are_written w = refl

second_is_not : (w : State) → evaluation 3 both w 6 ≡ stopped StepLimit [] (wrote (unbound w) (decimal 1)) 0
second_is_not w = refl

-- ---- (native-call 'low 23), where the function answers 7, takes a step for each of its three forms, and one for the call

abbrev low_called : Form
low_called = form (of.call (name (codes "NATIVE-CALL"))) (cons (form (of.constant (symbol (name (codes "LOW")))) nil) (alone (number 23)))

-- the host has one function, of one integer, which may answer anything
abbrev low_alone : Host
low_alone asked = if same_name (name (codes "LOW")) asked then Some (record { takes = 1; permits = λ xs x. true }) else None

low_answers : (w : State) → answered_by low_alone (evaluation 3 low_called w 4) (pos 7 ∷ []) ≡ Some (Given (integer (pos 7)) (unbound w) 0)
low_answers w = refl

-- with a step less it is not asked
low_is_not_asked : (w : State) → answered_by low_alone (evaluation 3 low_called w 3) [] ≡ Some
    (Signalled (record { kind = StepLimit; items = [] }) (unbound w) 0)
low_is_not_asked w = refl
