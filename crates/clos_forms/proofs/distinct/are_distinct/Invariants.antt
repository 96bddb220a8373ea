use Rattle.std.proofs.Common.{◌≡◌, ◌≤◌, true, length, drop}
use Rattle.std.specs.HashSet.{contains}
use Rattle.lisp_data.specs.Name.{Name, same_name}
use Rattle.clos_forms.specs.Distinct.{are_distinct}
use Rattle.clos_forms.proofs.NamesBehind.{has}
use Rattle.clos_forms.proofs.distinct.are_distinct.Given as goal

abbrev pub invariant-loop-at : goal.invariant-loop-at
invariant-loop-at l =
    (l.at ≤ length l.names) × (are_distinct (drop l.at l.names) ≡ true) × ((n : Name) → contains same_name l.seen n ≡ has (drop l.at l.names) n)

abbrev pub decreases-loop-at : goal.decreases-loop-at
decreases-loop-at l = l.at
