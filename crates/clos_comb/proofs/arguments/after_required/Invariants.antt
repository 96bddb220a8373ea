use Rattle.std.proofs.Common.{◌≡◌, drop}
use Rattle.clos_comb.specs.Arguments.{after_required}
use Rattle.clos_comb.proofs.arguments.after_required.Given as goal

abbrev pub invariant-loop-name : goal.invariant-loop-name
invariant-loop-name l = after_required (drop l._name-index l.names) l.rest ≡ after_required l.names l.arguments
