use Rattle.std.proofs.Common.{◌≡◌, length}
use Rattle.std.specs.List.{list_all}
use Rattle.clos_generic.specs.Changes.{addition_fits}
use Rattle.clos_generic.proofs.table.Generics.additions_fit.Given as goal

abbrev pub invariant-loop-addition : goal.invariant-loop-addition
invariant-loop-addition l =
    list_all (addition_fits l.self.table l.definitions) l.left
    ≡ list_all (addition_fits l.self.table l.definitions) l.initial.left

abbrev pub decreases-loop-addition : goal.decreases-loop-addition
decreases-loop-addition l = length l.left
