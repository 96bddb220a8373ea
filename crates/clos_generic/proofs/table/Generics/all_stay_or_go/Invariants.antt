use Rattle.std.proofs.Common.{◌≡◌, length}
use Rattle.std.specs.List.{list_all}
use Rattle.clos_method.specs.MethodIds.{method_numbers}
use Rattle.clos_generic.specs.Changes.{fits_or_goes}
use Rattle.clos_generic.proofs.table.Generics.all_stay_or_go.Given as goal

abbrev pub invariant-loop-method : goal.invariant-loop-method
invariant-loop-method l =
    list_all (fits_or_goes l.self.table l.removals l.id.0 l.shape) (method_numbers l.left)
    ≡ list_all (fits_or_goes l.self.table l.removals l.id.0 l.shape) (method_numbers l.initial.left)

abbrev pub decreases-loop-method : goal.decreases-loop-method
decreases-loop-method l = length l.left
