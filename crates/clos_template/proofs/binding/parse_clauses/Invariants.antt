use Rattle.std.proofs.Common.{◌≡◌, map}
use Rattle.lisp_data.specs.Datum.{size_of_data}
use Rattle.clos_forms.specs.Binding.{each}
use Rattle.clos_forms.proofs.Parts.{after}
use Rattle.clos_template.specs.BindingView.{clause_of}
use Rattle.clos_template.specs.Shape.{clause_in}
use Rattle.clos_template.proofs.binding.parse_clauses.Given as goal

abbrev pub invariant-loop-first : goal.invariant-loop-first
invariant-loop-first l = after (map clause_of l.clauses.items) (each clause_in l.rest) ≡ each clause_in l.elements

abbrev pub decreases-loop-first : goal.decreases-loop-first
decreases-loop-first l = size_of_data l.rest
