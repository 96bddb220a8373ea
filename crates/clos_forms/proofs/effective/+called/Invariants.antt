use Rattle.std.proofs.Common.{◌≡◌, ◌≤◌, ◌++◌, map}
use Rattle.clos_forms.specs.Effective.{called_by_all}
use Rattle.clos_forms.specs.Form.{size_of_forms}
use Rattle.clos_forms.proofs.effective.+called.Given as goal

abbrev pub invariant-push_called_by_all-loop-first : goal.invariant-push_called_by_all-loop-first
invariant-push_called_by_all-loop-first l =
    (size_of_forms l.rest ≤ size_of_forms l.forms)
    × (map (λ m. m.0) l.methods.items ++ called_by_all l.rest ≡ map (λ m. m.0) l.fn.methods.items ++ called_by_all l.forms)
