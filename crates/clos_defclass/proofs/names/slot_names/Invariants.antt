use Rattle.std.proofs.Common.{◌≡◌, ◌++◌, drop}
use Rattle.clos_defclass.specs.Names.{slot_names}
use Rattle.clos_defclass.proofs.names.slot_names.Given as goal

abbrev pub invariant-loop-slot : goal.invariant-loop-slot
invariant-loop-slot l = l.names.items ++ slot_names (drop l.slot-index l.slots) ≡ slot_names l.slots
