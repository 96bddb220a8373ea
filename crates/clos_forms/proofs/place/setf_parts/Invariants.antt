use Rattle.std.proofs.Common.{◌≡◌, map}
use Rattle.lisp_data.specs.Datum.{size_of_data}
use Rattle.clos_forms.specs.PartView.{part_of}
use Rattle.clos_forms.specs.Place.{setf_parts}
use Rattle.clos_forms.proofs.Parts.{after}
use Rattle.clos_forms.proofs.place.setf_parts.Given as goal

abbrev pub invariant-loop-place : goal.invariant-loop-place
invariant-loop-place l = after (map part_of l.parts.items) (setf_parts l.rest) ≡ setf_parts l.elements

abbrev pub decreases-loop-place : goal.decreases-loop-place
decreases-loop-place l = size_of_data l.rest
