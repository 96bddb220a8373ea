use Rattle.std.proofs.Common.{rules}
use Rattle.clos_prompt.proofs.Asking.{refused_next}
use Rattle.clos_prompt.proofs.command.unread.Goals as goal

pub returns-in-Some : goal.returns-in-Some
returns-in-Some c text at refused = refused_next text at c.args.fault (search rules) refused
