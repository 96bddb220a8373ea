use Rattle.std.proofs.Common.{◌≡◌, subst}
use Rattle.std.specs.Prelude.{MatchOption}
use Rattle.lisp_data.specs.ValueView.{value_of}
use Rattle.clos_forms.specs.Form.{cons, nil}
use Rattle.clos_control.proofs.binding.continue_within.Goals as goal

pub returns-in-Some-clause-leads : goal.returns-in-Some-clause-leads
returns-in-Some-clause-leads c =
    c.begin_within.ensures.leads c.args.forms.now (value_of c.args.value)
    (subst (λ o. MatchOption o (c.args.forms.now ≡ nil) (λ p. c.args.forms.now ≡ cons p.0 p.1)) c.in-Some.is c.in_ok-split.ensures)
