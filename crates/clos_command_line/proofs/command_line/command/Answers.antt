use Rattle.std.proofs.Common.{ap, ap₂, ◌≡◌, ◌∙◌, codes}
use Rattle.std.proofs.lemmas.Result.{IfOk-weaker}
use Rattle.clap.specs.Words.{app_of, new_app, with_rule}
use Rattle.clap.specs.Simple.{app_of_fields}
use Rattle.clos_command_line.specs.CommandLine.{clos_command, with_version}
use Rattle.clos_command_line.proofs.command_line.command.Goals as goal

pub returns : goal.returns
unfolding clos_command
returns c =
    let named : app_of c.about.result ≡ new_app (codes "clos") = ap app_of_fields c.about.ensures ∙ c.new.ensures.app in
    let start : app_of c.after_help.result ≡ with_version (new_app (codes "clos")) =
    ap app_of_fields c.after_help.ensures ∙ ap app_of_fields c.version.ensures ∙ ap with_version named in
    IfOk-weaker c.arg-5.result _ _ (λ cmd added. added.shape c.files_argument.ensures.1
    ∙ ap₂ with_rule (c.in_ok-arg-4.ensures.shape c.number_option-depth.ensures.1
    ∙ ap₂ with_rule (c.in_ok-arg-3.ensures.shape c.number_option-steps.ensures.1
    ∙ ap₂ with_rule (c.in_ok-arg-2.ensures.shape c.flag-notices.ensures.1
    ∙ ap₂ with_rule (c.in_ok-arg.ensures.shape c.flag-echo.ensures.1
    ∙ ap₂ with_rule start c.flag-echo.ensures.0) c.flag-notices.ensures.0) c.number_option-steps.ensures.0)
    c.number_option-depth.ensures.0) c.files_argument.ensures.0) c.arg-5.ensures
