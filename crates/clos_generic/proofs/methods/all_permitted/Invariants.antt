use Rattle.std.proofs.Common.{◌≡◌, length}
use Rattle.std.specs.List.{list_all}
use Rattle.clos_method.specs.Specializer.{specializers_in}
use Rattle.clos_generic.specs.Fault.{is_permitted_one}
use Rattle.clos_generic.proofs.methods.all_permitted.Given as goal

abbrev pub invariant-loop-specializer : goal.invariant-loop-specializer
invariant-loop-specializer l = list_all is_permitted_one (specializers_in l.left) ≡ list_all is_permitted_one (specializers_in l.initial.left)

abbrev pub decreases-loop-specializer : goal.decreases-loop-specializer
decreases-loop-specializer l = length l.left
