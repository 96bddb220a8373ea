use Rattle.std.proofs.Common.{◌≡◌, map}
use Rattle.lisp_data.specs.Datum.{size_of_data}
use Rattle.clos_forms.specs.Binding.{each}
use Rattle.clos_forms.specs.BoundView.{bound_slot}
use Rattle.clos_forms.specs.Slots.{slot_in}
use Rattle.clos_forms.proofs.Parts.{after}
use Rattle.clos_forms.proofs.slots.parse_entries.Given as goal

abbrev pub invariant-loop-first : goal.invariant-loop-first
invariant-loop-first l = after (map bound_slot l.slots.items) (each slot_in l.rest) ≡ each slot_in l.elements

abbrev pub decreases-loop-first : goal.decreases-loop-first
decreases-loop-first l = size_of_data l.rest
