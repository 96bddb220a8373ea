use Rattle.std.proofs.Common.{[], ◌∷◌, ◌++◌, ap, refl, ◌∙◌}
use Rattle.clos_forms.specs.Form.{Form, Forms}
use Rattle.clos_machine.specs.Machine.{acted, after, at}
use Rattle.clos_machine.specs.clos_meaning.Meaning.{collect, meaning}
use Rattle.clos_machine.specs.clos_meaning.Outcome.{then_do}
use Rattle.clos_machine.specs.declared.machine.Action.TheVariants.{Set}
use Rattle.clos_machine.specs.declared.machine.Frame.TheVariants.{Collect}
use Rattle.clos_places.proofs.places.new_value.Goals as goal

pub returns-clause-leads : goal.returns-clause-leads
returns-clause-leads c = λ run w h.
    let m = c.args.machine.now in
    c.begin.ensures.leads run w refl (λ t.
    ap (λ (f : Form). then_do (meaning m.room m.context f (at m w) t) (after (meaning m.room) m.context (Collect (Set c.args.target) c.new.result c.args.values))) c.in_ok-next.ensures
    ∙ ap (λ (fs : Forms). then_do (meaning m.room m.context c.args.form.now (at m w) t)
    (λ v u k. collect (meaning m.room) m.context fs (c.args.values ++ v ∷ []) (acted (meaning m.room) m.context (Set c.args.target)) u k)) c.new.ensures
    ∙ h t)
