use Rattle.std.proofs.Common.{ap, get_or, refl, sym, ◌∙◌}
use Rattle.clos_machine.specs.Machine.{at}
use Rattle.clos_machine.specs.clos_meaning.Meaning.{meaning}
use Rattle.clos_objects.proofs.Making.{first_default}
use Rattle.clos_objects.proofs.creation.evaluate_default.Goals as goal

pub returns-clause-leads : goal.returns-clause-leads
returns-clause-leads c = λ run w h.
    c.begin.ensures.leads run w refl (λ t.
    first_default (meaning c.args.machine.now.room) c.args.machine.now.context c.args.class.0 c.args.effective c.args.initargs (at c.args.machine.now w) t c.in_ok-form.form
    c.args.effective.defaults c.args.place c.index-defaults-place.result c.requires
    (c.index-defaults-place.is ∙ ap (λ l. get_or l c.args.place c.index-defaults-place.result) c.defaults.ensures) (c.in_ok-form.ensures ∙ ap (λ d. d.form) (sym c.index-defaults-place.is))
    ∙ h t)
