use Rattle.std.proofs.Common.{◌≡◌}
use Rattle.std.specs.Prelude.{option_map}
use Rattle.lisp_data.specs.Datum.{size_of_data}
use Rattle.lisp_data.specs.DatumView.{datum_of}
use Rattle.clos_forms.specs.Body.{after_string, body_of}
use Rattle.clos_forms.proofs.body.past_declarations.Given as goal

abbrev pub invariant-loop-first : goal.invariant-loop-first
invariant-loop-first l = after_string (option_map (λ d. datum_of d.now) l.last) (body_of l.rest) ≡ body_of l.forms

abbrev pub decreases-loop-first : goal.decreases-loop-first
decreases-loop-first l = size_of_data l.rest
