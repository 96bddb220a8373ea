use Rattle.std.proofs.Common.{◌≡◌, length}
use Rattle.std.specs.List.{list_all}
use Rattle.std.specs.Prelude.{not}
use Rattle.clos_generic.specs.Fault.{is_system}
use Rattle.clos_generic.specs.Table.{named}
use Rattle.clos_generic.proofs.table.Generics.none_of_system.Given as goal

abbrev pub invariant-loop-definition : goal.invariant-loop-definition
invariant-loop-definition l =
    list_all (λ d. not (is_system (named l.self.table d.name))) l.left
    ≡ list_all (λ d. not (is_system (named l.self.table d.name))) l.initial.left

abbrev pub decreases-loop-definition : goal.decreases-loop-definition
decreases-loop-definition l = length l.left
