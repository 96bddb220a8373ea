use Rattle.clos_method.proofs.OnArguments.{as_many}
use Rattle.clos_method.proofs.arguments.Arguments.len.Goals as goal

pub returns : goal.returns
returns c = as_many c.self.inside.classes.now c.self.inside.class_ids.now c.self.inside.values.now c.args.self.now c.self.invariant c.self.view_is
