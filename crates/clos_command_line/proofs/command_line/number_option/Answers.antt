use Rattle.std.proofs.Common.{rules, ap, ◌≡◌, ◌∙◌, Some}
use Rattle.clap.specs.declared.builder.value_parser.ValueParser.TheVariants as vp
use Rattle.clos_command_line.proofs.command_line.number_option.Goals as goal

pub returns : goal.returns
returns c =
    let given = c.value_parser.ensures.given in
    let parser : c.value_parser.result.value_parser ≡ Some (vp.Unsigned 1 c.args.most) = given.1 ∙ ap Some (given.2 ∙ c.unsigned.ensures) in
    let help_parser : c.help.result.value_parser ≡ Some (vp.Unsigned 1 c.args.most) = search rules in
    search rules
