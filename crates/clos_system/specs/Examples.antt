-- Worked examples: what a run tells of (progn (princ "1") (princ "2")), with the seven steps that it takes and with six.
use Rattle.std.specs.Prelude.{◌≡◌, ℕ, Bool, false, true, List, [], ◌∷◌, ◌++◌, codes, Option, Some, None, option_map, refl}
use Rattle.lisp_data.specs.Datum.{Dat, symbol, string, list, nil, cons}
use Rattle.clos_session.specs.clos_perform.Step.{step}
use Rattle.clos_session.specs.clos_machine.clos_meaning.Host.{answered_by}
use Rattle.clos_session.specs.clos_machine.clos_meaning.Outcome.{Out}
use Rattle.clos_session.specs.clos_world.Initial.{initial}
use Rattle.clos_session.specs.clos_world.Limits.{standard}
use Rattle.clos_session.specs.clos_world.World.{State, names_of}
use Rattle.clos_session.specs.clos_world.declared.condition.ConditionKind.TheVariants.{StepLimit}
use Rattle.clos_transcript.specs.Told.{condition_text, told}

abbrev word : List ℕ → Dat
word text = symbol (record { text = text; keyword = false })

-- (princ "text")
abbrev says : List ℕ → Dat
says text = list (cons (word (codes "PRINC")) (cons (string text) nil))

abbrev both : Dat
both = list (cons (word (codes "PROGN")) (cons (says (codes "1")) (cons (says (codes "2")) nil)))

-- a session that begins
abbrev new : State
new = initial standard []

-- what is told of a form, where the host stored no functions
abbrev told_by : Bool → Out → Option (List ℕ)
told_by echo o = option_map (λ e. told echo new e []) (answered_by (λ name. None) o [])

both_are_told : told_by false (step both new 7) ≡ Some (codes "12")
both_are_told = refl

-- its value is told on a fresh line
value_is_told : told_by true (step both new 7) ≡ Some (codes "12" ++ 10 ∷ codes "\"2\"" ++ 10 ∷ [])
value_is_told = refl

second_is_not : told_by false (step both new 6)
    ≡ Some (codes "1" ++ 10 ∷ condition_text (names_of (record new { written = codes "1" })) (record { kind = StepLimit; items = [] }))
second_is_not = refl
