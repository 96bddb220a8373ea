use Rattle.std.proofs.Common.{◌≡◌, map}
use Rattle.lisp_data.specs.Datum.{size_of_data}
use Rattle.clos_forms.specs.Binding.{each, binding_in}
use Rattle.clos_forms.specs.BindingView.{entry_of}
use Rattle.clos_forms.proofs.Parts.{after}
use Rattle.clos_forms.proofs.binding.parse_entries.Given as goal

abbrev pub invariant-loop-first : goal.invariant-loop-first
invariant-loop-first l = after (map entry_of l.entries.items) (each binding_in l.rest) ≡ each binding_in l.elements

abbrev pub decreases-loop-first : goal.decreases-loop-first
decreases-loop-first l = size_of_data l.rest
