use Rattle.std.proofs.Common.{◌≡◌, map}
use Rattle.lisp_data.specs.Datum.{size_of_data}
use Rattle.clos_forms.specs.Binding.{each}
use Rattle.clos_forms.proofs.Parts.{after}
use Rattle.clos_template.specs.Backquote.{element_in}
use Rattle.clos_template.specs.BackquoteView.{element_of}
use Rattle.clos_template.proofs.backquote.parse_elements.Given as goal

abbrev pub invariant-loop-first : goal.invariant-loop-first
invariant-loop-first l = after (map element_of l.parsed.items) (each element_in l.rest) ≡ each element_in l.elements

abbrev pub decreases-loop-first : goal.decreases-loop-first
decreases-loop-first l = size_of_data l.rest
