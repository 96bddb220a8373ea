use Rattle.std.proofs.Common.{◌≡◌, ◌++◌, drop}
use Rattle.clos_comb.specs.Arguments.{required_bound}
use Rattle.clos_comb.proofs.arguments.bind_required.Given as goal

abbrev pub invariant-loop-name : goal.invariant-loop-name
invariant-loop-name l = l.scope ++ required_bound (drop l.name-index l.names) l.rest ≡ l.fn.scope ++ required_bound l.names l.arguments
