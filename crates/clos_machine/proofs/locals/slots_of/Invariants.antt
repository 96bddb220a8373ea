use Rattle.std.proofs.Common.{◌≡◌, ◌++◌, length, map}
use Rattle.lisp_data.specs.ValueView.{value_of}
use Rattle.clos_forms.specs.BoundView.{bound_slot}
use Rattle.clos_meaning.specs.SlotNames.{slot_locals}
use Rattle.clos_machine.proofs.locals.slots_of.Given as goal

abbrev pub invariant-loop-last : goal.invariant-loop-last
invariant-loop-last l = slot_locals (map bound_slot l.rest) (value_of l.fn.object) ++ l.locals ≡ slot_locals (map bound_slot l.fn.bindings) (value_of l.fn.object)

abbrev pub decreases-loop-last : goal.decreases-loop-last
decreases-loop-last l = length l.rest
