-- What commands ask for.
use Rattle.std.specs.Prelude.{ℕ, List, Option, Some, None}
use Rattle.lisp_data.specs.Datum.{Dat}
use Rattle.lisp_data.specs.DatumView.{datum_of}
use Rattle.lisp_data.specs.declared.datum.Datum.{Datum}
use Rattle.lisp_reader.specs.Answers.{Next}
use Rattle.clos_commentary.specs.clos_system.clos_world.World.{State}
use Rattle.clos_prompt.specs.Command.{Asks, AsksNone}
use Rattle.clos_prompt.specs.declared.command.Request.{Request}
use Rattle.clos_prompt.specs.declared.command.Request.TheVariants.{Page, Methods}

-- a page, or the value of a form
abbrev pub Wants : State → List ℕ → Request → Type 0
Wants w line (Page page) = AsksNone w line
Wants w line (Methods id form) = Asks w line (datum_of form)

-- a text gives this datum next, or none
abbrev pub ReadsNext : List ℕ → Option Datum → Type 0
ReadsNext text None = (d : Dat) (rest : List ℕ) → ¬ (Next text d rest)
ReadsNext text (Some d) = (rest : List ℕ) × Next text (datum_of d) rest
