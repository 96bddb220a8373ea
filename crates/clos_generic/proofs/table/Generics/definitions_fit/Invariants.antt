use Rattle.std.proofs.Common.{◌≡◌, length}
use Rattle.std.specs.List.{list_all}
use Rattle.clos_generic.specs.Changes.{definition_fits}
use Rattle.clos_generic.proofs.table.Generics.definitions_fit.Given as goal

abbrev pub invariant-loop-definition : goal.invariant-loop-definition
invariant-loop-definition l =
    list_all (definition_fits l.self.table l.removals) l.left
    ≡ list_all (definition_fits l.self.table l.removals) l.initial.left

abbrev pub decreases-loop-definition : goal.decreases-loop-definition
decreases-loop-definition l = length l.left
