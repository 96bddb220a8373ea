use Rattle.lisp_data.specs.ValueView.{value_of}
use Rattle.clos_calls.proofs.Counted.{some_after}
use Rattle.clos_calls.proofs.keywords.after.Goals as goal

pub returns : goal.returns
returns c = some_after value_of c.args.count c.args.arguments.now
