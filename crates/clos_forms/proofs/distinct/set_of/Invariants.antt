use Rattle.std.proofs.Common.{◌≡◌, ◌≤◌, length, drop}
use Rattle.std.specs.HashSet.{contains}
use Rattle.lisp_data.specs.Name.{Name, same_name}
use Rattle.clos_forms.proofs.NamesBehind.{has}
use Rattle.clos_forms.proofs.distinct.set_of.Given as goal

abbrev pub invariant-loop-at : goal.invariant-loop-at
invariant-loop-at l = (l.at ≤ length l.names) × ((n : Name) → contains same_name l.set n ≡ has (drop l.at l.names) n)

abbrev pub decreases-loop-at : goal.decreases-loop-at
decreases-loop-at l = l.at
