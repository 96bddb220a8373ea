use Rattle.std.proofs.Common.{◌≡◌, ◌++◌, map}
use Rattle.lisp_data.specs.Datum.{size_of_data}
use Rattle.clos_template.specs.Part.{templates_in}
use Rattle.clos_template.specs.PartView.{part_of}
use Rattle.clos_template.proofs.part.push_templates.Given as goal

abbrev pub invariant-loop-datum : goal.invariant-loop-datum
invariant-loop-datum l =
    map part_of l.parts.items ++ templates_in l.rest ≡ map part_of l.fn.parts.items ++ templates_in l.elements

abbrev pub decreases-loop-datum : goal.decreases-loop-datum
decreases-loop-datum l = size_of_data l.rest
