use Rattle.std.proofs.Common.{◌≤◌}
use Rattle.clos_forms.specs.Form.{size_of_forms}
use Rattle.clos_forms.specs.FormView.{forms_of}
use Rattle.clos_forms.proofs.+form.Given as goal

-- what is left of the list is no larger than the list
abbrev pub invariant-form::Forms::drop-loop-link : goal.invariant-form::Forms::drop-loop-link
invariant-form::Forms::drop-loop-link l = size_of_forms (forms_of l.link) ≤ size_of_forms l.fn.self
