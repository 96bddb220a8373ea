use Rattle.std.proofs.Common.{ap, ◌≡◌, ◌∙◌, map, subst, sym, true}
use Rattle.clap.specs.Words.{App, app_of, fault_of, is_simple, is_simple_and_free, kind_of, matches_of, takes}
use Rattle.clap.proofs.FaultLemmas.{failed_up}
use Rattle.clap.specs.declared.error.Error.{Error}
use Rattle.std.specs.Prelude.{Result, Ok, Err, IfErr, IsErrAnd}
use Rattle.clap.specs.Kinds.{HasKind}
use Rattle.clap.specs.declared.error.kind.ErrorKind.TheVariants.{OutOfMemory}
use Rattle.clos_command_line.specs.CommandLine.{AreMatched, clos_command}
use Rattle.clos_command_line.proofs.OnCommandLine.{depth_value, simple_command, steps_value}
use Rattle.clos_command_line.proofs.command_line.settings.Goals as goal

-- a fact of the error that a call passes up
passed_up : {T : Type 0} (r : Result T Error) (e : Error) (P : Error → Type 0) → IsErrAnd r (λ y. y ≡ e) → P e → IfErr r P
passed_up (Ok x) e P is h = tt
passed_up (Err y) e P is h = subst P (sym is) h

pub returns-in_err-matches-clause-taken : goal.returns-in_err-matches-clause-taken
returns-in_err-matches-clause-taken g c =
    let words = map g.S.AsStr.text c.args.words.now in
    let app : app_of c.in_ok-command.field-0 ≡ clos_command = c.in_ok-command.ensures in
    let passes : takes clos_command words ≡ true → kind_of c.in_err-matches.field-0.0 ≡ OutOfMemory = λ t.
    c.in_err-matches.ensures.passes (ap (λ (a : App). takes a words) app ∙ t) in
    passed_up c.from_residual-in_err-matches.result c.in_err-matches.field-0.0 (λ e. takes clos_command words ≡ true → kind_of e ≡ OutOfMemory)
    c.from_residual-in_err-matches.ensures.1 passes

pub returns-in_err-matches-clause-kinds : goal.returns-in_err-matches-clause-kinds
returns-in_err-matches-clause-kinds g c =
    let words = map g.S.AsStr.text c.args.words.now in
    let app : app_of c.in_ok-command.field-0 ≡ clos_command = c.in_ok-command.ensures in
    let kinds : HasKind (fault_of clos_command words) c.in_err-matches.field-0.0 =
    subst (λ (a : App). HasKind (fault_of a words) c.in_err-matches.field-0.0) app (c.in_err-matches.ensures.kinds (ap is_simple_and_free app ∙ simple_command.1)) in
    failed_up c.from_residual-in_err-matches.result c.in_err-matches.field-0.0 _ (fault_of clos_command words) c.from_residual-in_err-matches.ensures.1 kinds

pub settings_found-requires-clause-steps : goal.settings_found-requires-clause-steps
settings_found-requires-clause-steps g c =
    steps_value c.in_ok-command.field-0 c.in_ok-matches.matches c.in_ok-matches.ensures.parsed c.in_ok-command.ensures

pub settings_found-requires-clause-depth : goal.settings_found-requires-clause-depth
settings_found-requires-clause-depth g c =
    depth_value c.in_ok-command.field-0 c.in_ok-matches.matches c.in_ok-matches.ensures.parsed c.in_ok-command.ensures

pub returns-clause-matched : goal.returns-clause-matched
returns-clause-matched g c =
    let words = map g.S.AsStr.text c.args.words.now in
    let app : app_of c.in_ok-command.field-0 ≡ clos_command = c.in_ok-command.ensures in
    let rows = (c.in_ok-matches.ensures.matches (ap is_simple app ∙ simple_command.0)).0 ∙ ap (λ (a : App). matches_of a words) app in
    subst (λ r. AreMatched r c.in_ok-settings_found.field-0) rows c.in_ok-settings_found.ensures.matched

pub returns-clause-kinds : goal.returns-clause-kinds
returns-clause-kinds g c =
    let words = map g.S.AsStr.text c.args.words.now in
    let app : app_of c.in_ok-command.field-0 ≡ clos_command = c.in_ok-command.ensures in
    ap (λ (a : App). fault_of a words) (sym app) ∙ c.in_ok-matches.ensures.kinds (ap is_simple_and_free app ∙ simple_command.1)
