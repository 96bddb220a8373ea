use Rattle.std.proofs.Common.{◌≡◌, ◌++◌, drop, map}
use Rattle.clos_forms.specs.BoundView.{bound_slot}
use Rattle.clos_forms.specs.Slots.{variables_of}
use Rattle.clos_forms.proofs.slots.variables_of.Given as goal

abbrev pub invariant-loop-slot : goal.invariant-loop-slot
invariant-loop-slot l = l.names.items ++ variables_of (map bound_slot (drop l.slot-index l.slots)) ≡ variables_of (map bound_slot l.slots)
