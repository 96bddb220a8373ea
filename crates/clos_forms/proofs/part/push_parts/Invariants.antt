use Rattle.std.proofs.Common.{◌≡◌, ◌++◌, map}
use Rattle.lisp_data.specs.Datum.{size_of_data}
use Rattle.clos_forms.specs.Part.{in_roles}
use Rattle.clos_forms.specs.PartView.{part_of}
use Rattle.clos_forms.proofs.part.push_parts.Given as goal

abbrev pub invariant-loop-datum : goal.invariant-loop-datum
invariant-loop-datum l =
    map part_of l.parts.items ++ in_roles l.role l.rest ≡ map part_of l.fn.parts.items ++ in_roles l.role l.elements

abbrev pub decreases-loop-datum : goal.decreases-loop-datum
decreases-loop-datum l = size_of_data l.rest
