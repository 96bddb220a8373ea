use Rattle.std.proofs.Common.{◌≡◌, take, map}
use Rattle.clos_generic.specs.inner.Reserved.{ids_of}
use Rattle.clos_generic.proofs.spare.functions_of.Given as goal

abbrev pub invariant-loop-addition : goal.invariant-loop-addition
invariant-loop-addition l = ids_of l.ids.items ≡ map (λ a. a.generic.0) (take l.addition-index l.additions)
