use Rattle.std.proofs.Common.{◌≡◌, ◌++◌, drop}
use Rattle.clos_comb.specs.Arguments.{optional_bound}
use Rattle.clos_comb.proofs.arguments.bind_optional.Given as goal

abbrev pub invariant-loop-parameter : goal.invariant-loop-parameter
invariant-loop-parameter l =
    l.scope ++ optional_bound (drop l.parameter-index l.parameters) l.rest ≡ l.fn.scope ++ optional_bound l.parameters l.arguments
