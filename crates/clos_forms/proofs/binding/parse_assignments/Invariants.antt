use Rattle.std.proofs.Common.{◌≡◌, map}
use Rattle.lisp_data.specs.Datum.{size_of_data}
use Rattle.clos_forms.specs.Binding.{assignments_in}
use Rattle.clos_forms.specs.BindingView.{entry_of}
use Rattle.clos_forms.proofs.Parts.{after}
use Rattle.clos_forms.proofs.binding.parse_assignments.Given as goal

abbrev pub invariant-loop-variable : goal.invariant-loop-variable
invariant-loop-variable l = after (map entry_of l.entries.items) (assignments_in l.rest) ≡ assignments_in l.elements

abbrev pub decreases-loop-variable : goal.decreases-loop-variable
decreases-loop-variable l = size_of_data l.rest
