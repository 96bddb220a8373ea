use Rattle.std.proofs.Common.{◌≡◌, map}
use Rattle.lisp_data.specs.Datum.{size_of_data}
use Rattle.clos_forms.specs.Binding.{each}
use Rattle.clos_forms.specs.NamedMethods.{method_in}
use Rattle.clos_forms.specs.NamedMethodsView.{named_of}
use Rattle.clos_forms.proofs.Parts.{after}
use Rattle.clos_forms.proofs.named_methods.parse_each_method.Given as goal

abbrev pub invariant-loop-first : goal.invariant-loop-first
invariant-loop-first l = after (map named_of l.methods.items) (each method_in l.rest) ≡ each method_in l.elements

abbrev pub decreases-loop-first : goal.decreases-loop-first
decreases-loop-first l = size_of_data l.rest
