-- What is told of a form in the transcript of a run.
use Rattle.std.specs.Prelude.{ℕ, ◌==◌, List, [], ◌∷◌, ◌++◌, Bool, true, codes, Result, Ok, Err, if◌then◌else◌, length, drop}
use Rattle.std.specs.List.{flat_map}
use Rattle.std.specs.Fmt.{decimal}
use Rattle.lisp_data.specs.Print.{Names, text_of}
use Rattle.lisp_data.specs.ValueView.{value_of}
use Rattle.lisp_data.specs.declared.value.Value.{Value}
use Rattle.clos_world.specs.Condition.{number_of, condition_name}
use Rattle.clos_world.specs.World.{State, names_of}
use Rattle.clos_meaning.specs.Outcome.{End, Given, Signalled}
use Rattle.clos_world.specs.declared.condition.Condition.{Condition}
use Rattle.clos_world.specs.declared.condition.Stop.{Stop}
use Rattle.clos_world.specs.declared.condition.Stop.TheVariants.{Refused, Storage}

-- whether nothing is written yet, or a newline last
abbrev pub ends_line : List ℕ → Bool
ends_line [] = true
ends_line (b ∷ []) = b == 10
ends_line (b ∷ c ∷ bs) = ends_line (c ∷ bs)

-- on a fresh line
abbrev pub fresh_line : List ℕ → List ℕ
fresh_line out = if ends_line out then out else out ++ 10 ∷ []

-- a condition as it is told: its number, and in parentheses its name and what it is about
abbrev pub condition_text : Names → Condition → List ℕ
condition_text names c =
    codes "; " ++ decimal (number_of c.kind) ++ codes " (" ++ condition_name c.kind ++ flat_map (λ v. 32 ∷ text_of true names v) c.items ++ codes ")" ++ 10 ∷ []

-- what a form wrote, after what was written before it
abbrev pub with_written : State → State → List ℕ → List ℕ
with_written w w' out = out ++ drop (length w.written) w'.written

-- what stands written after a form: what it wrote, and on a fresh line its condition or, where values are told, its value
abbrev pub told : Bool → State → End → List ℕ → List ℕ
told echo w (Given v w' s) out =
    if echo then fresh_line (with_written w w' out) ++ text_of true (names_of w') v ++ 10 ∷ [] else with_written w w' out
told echo w (Signalled c w' s) out = fresh_line (with_written w w' out) ++ condition_text (names_of w') c

-- the line for want of memory, which is no condition: the number 0, and the steps that were taken
abbrev pub storage_text : ℕ → List ℕ
storage_text k = codes "; 0 (STORAGE " ++ (decimal k ++ (codes ")" ++ 10 ∷ []))

-- .. and where memory was refused in it after so many steps
abbrev pub told_cut : State → State → ℕ → List ℕ → List ℕ
told_cut w w' k out = fresh_line (with_written w w' out) ++ storage_text k

-- what is told of a form that was answered so, after so many steps
abbrev pub told_for : Bool → State → State → Result Value Stop → ℕ → List ℕ → List ℕ
told_for echo w w' (Ok v) k out = told echo w (Given (value_of v) w' 0) out
told_for echo w w' (Err (Refused c)) k out = told echo w (Signalled c w' 0) out
told_for echo w w' (Err Storage) k out = told_cut w w' k out
