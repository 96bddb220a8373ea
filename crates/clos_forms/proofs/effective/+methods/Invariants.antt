use Rattle.std.proofs.Common.{◌≡◌, ◌≤◌, ◌++◌, map}
use Rattle.clos_forms.specs.Effective.{methods_in_all}
use Rattle.lisp_data.specs.Datum.{size_of_data}
use Rattle.clos_forms.proofs.effective.+methods.Given as goal

abbrev pub invariant-push_methods_in_all-loop-first : goal.invariant-push_methods_in_all-loop-first
invariant-push_methods_in_all-loop-first l =
    (size_of_data l.rest ≤ size_of_data l.elements)
    × (map (λ m. m.0) l.methods.items ++ methods_in_all l.rest ≡ map (λ m. m.0) l.fn.methods.items ++ methods_in_all l.elements)
