use Rattle.std.proofs.Common.{◌≡◌}
use Rattle.lisp_data.specs.Datum.{size_of_data}
use Rattle.clos_syntax.specs.Slot.{are_slot_options}
use Rattle.clos_syntax.proofs.slot.are_slot_options.Given as goal

abbrev pub invariant-loop-key : goal.invariant-loop-key
invariant-loop-key l = are_slot_options l.rest ≡ are_slot_options l.options

abbrev pub decreases-loop-key : goal.decreases-loop-key
decreases-loop-key l = size_of_data l.rest
