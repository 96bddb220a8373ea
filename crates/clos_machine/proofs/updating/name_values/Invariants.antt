use Rattle.std.proofs.Common.{◌≡◌, ◌++◌, length, map}
use Rattle.clos_forms.specs.Quotation.{name_value}
use Rattle.clos_machine.proofs.updating.name_values.Given as goal

abbrev pub invariant-loop-name : goal.invariant-loop-name
invariant-loop-name l = l.values ++ map name_value l.left ≡ map name_value l.fn.names

abbrev pub decreases-loop-name : goal.decreases-loop-name
decreases-loop-name l = length l.left
