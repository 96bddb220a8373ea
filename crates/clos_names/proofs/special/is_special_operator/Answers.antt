use Rattle.std.proofs.Common.{is_some, ap, ◌∙◌}
use Rattle.clos_names.proofs.Lists.{special_is_one}
use Rattle.clos_names.proofs.special.is_special_operator.Goals as goal

pub returns : goal.returns
returns c = c.is_some.ensures ∙ ap is_some c.named.ensures ∙ special_is_one c.args.name.now
