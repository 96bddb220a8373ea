use Rattle.clos_prompt.specs.Command.{after_word}
use Rattle.std.proofs.Common.{rules}
use Rattle.lisp_reader.specs.Answers.{Gives, nothing_left}
use Rattle.clos_prompt.proofs.Asking.{nothing_next}
use Rattle.clos_prompt.proofs.command.subject.Goals as goal

pub returns-in-Ok-None : goal.returns-in-Ok-None
returns-in-Ok-None c = nothing_next (after_word c.args.line.now) (search rules)
