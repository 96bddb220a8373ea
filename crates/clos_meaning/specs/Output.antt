-- Output (HyperSpec 22.4).
use Rattle.std.specs.Prelude.{◌≡◌, ℕ, List, [], ◌∷◌, ◌++◌, true, false, Option, Some, None, codes}
use Rattle.lisp_data.specs.Value.{Val, list, nil}
use Rattle.lisp_data.specs.Print.{Names, text_of}
use Rattle.clos_world.specs.World.{State, names_of}
use Rattle.clos_world.specs.declared.condition.ConditionKind.TheVariants.{ProgramError}
use Rattle.clos_meaning.specs.Outcome.{Gave, Run, stopped, step_then}
use Rattle.clos_forms.specs.clos_names.declared.callee.Output as output
use Rattle.clos_forms.specs.clos_names.declared.callee.Output.TheVariants.{Princ, Prin1, Print}

-- the bytes are written
abbrev pub written : List ℕ → Val → Run
written bytes v w s = Gave v (record w { written = w.written ++ bytes }) s

-- for people with princ, readable with prin1, and with print readable between a newline and a space
abbrev pub text_by : output.Output → Names → Val → List ℕ
text_by Princ names v = text_of false names v
text_by Prin1 names v = text_of true names v
text_by Print names v = codes "\n" ++ (text_of true names v ++ codes " ")

-- the one argument is written in one step, and given; a stream is one argument too many
abbrev pub output_of : output.Output → Option Val → Run
output_of o None w s = stopped ProgramError [] w s
output_of o (Some v) w s = step_then (written (text_by o (names_of w) v) v) w s

-- terpri writes a newline in one step, and gives NIL; a stream is one argument too many
abbrev pub line_ended : List Val → Run
line_ended [] w s = step_then (written (codes "\n") (list nil)) w s
line_ended (v ∷ vs) w s = stopped ProgramError [] w s

-- what was written before stays, and more may have been written after it
abbrev pub WritesMore : State → State → Type 0
WritesMore w u = (more : List ℕ) × (u.written ≡ w.written ++ more)
