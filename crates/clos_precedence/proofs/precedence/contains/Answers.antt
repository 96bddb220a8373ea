use Rattle.std.proofs.Common.{◌∙◌}
use Rattle.clos_precedence.proofs.Lists.{any_number}
use Rattle.clos_precedence.proofs.precedence.contains.Goals as goal

pub returns : goal.returns
returns c = c.any.ensures ∙ any_number c.args.classes.now c.args.class.0
