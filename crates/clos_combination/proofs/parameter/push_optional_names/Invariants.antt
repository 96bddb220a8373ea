use Rattle.std.proofs.Common.{◌≡◌, ◌++◌, drop}
use Rattle.clos_combination.specs.Parameter.{optional_names}
use Rattle.clos_combination.proofs.parameter.push_optional_names.Given as goal

abbrev pub invariant-loop-parameter : goal.invariant-loop-parameter
invariant-loop-parameter l = l.names.items ++ optional_names (drop l.parameter-index l.parameters) ≡ l.fn.names.items ++ optional_names l.parameters
