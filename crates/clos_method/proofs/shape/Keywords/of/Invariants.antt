use Rattle.std.proofs.Common.{◌≡◌, take, map}
use Rattle.clos_method.proofs.shape.Keywords.of.Given as goal

abbrev pub invariant-loop-entry : goal.invariant-loop-entry
invariant-loop-entry l = l.names.items ≡ map (λ e. e.keyword) (take l.entry-index l.entry-items)
