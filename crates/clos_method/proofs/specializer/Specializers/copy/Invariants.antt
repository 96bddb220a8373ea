use Rattle.std.proofs.Common.{◌≡◌, take, map}
use Rattle.clos_method.specs.Specializer.{specializer_of}
use Rattle.clos_method.proofs.specializer.Specializers.copy.Given as goal

abbrev pub invariant-loop-item : goal.invariant-loop-item
invariant-loop-item l = map specializer_of l.items.items ≡ map specializer_of (take l.item-index l.item-items)
