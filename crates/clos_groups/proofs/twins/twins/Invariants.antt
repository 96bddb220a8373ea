use Rattle.std.proofs.Common.{◌≡◌, ◌≤◌, List, drop, length}
use Rattle.std.specs.Prelude.{option_map}
use Rattle.std.specs.HashMap.{get}
use Rattle.lisp_data.specs.Print.{Specializer}
use Rattle.clos_method.specs.MethodIds.{method_numbers}
use Rattle.clos_method.specs.Specializer.{same_specializers}
use Rattle.clos_groups.specs.Refusal.{specialized_so, twins}
use Rattle.clos_groups.specs.RefusalView.{pair_of}
use Rattle.clos_groups.proofs.twins.twins.Given as goal

abbrev pub invariant-loop-at : goal.invariant-loop-at
invariant-loop-at l =
    (l.at ≤ length l.ids) × (option_map pair_of l.found ≡ twins l.methods (method_numbers (drop l.at l.ids)))
    × ((ss : List Specializer) → option_map (λ m. m.0) (get same_specializers l.next ss) ≡ specialized_so l.methods ss (method_numbers (drop l.at l.ids)))

abbrev pub decreases-loop-at : goal.decreases-loop-at
decreases-loop-at l = l.at
