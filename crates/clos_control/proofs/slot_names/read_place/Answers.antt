use Rattle.std.proofs.Common.{sym, ◌∙◌}
use Rattle.clos_control.proofs.Named.{place_is_read, unbound_is_read}
use Rattle.clos_control.proofs.slot_names.read_place.Goals as goal

pub returns-in-Some-clause-leads : goal.returns-in-Some-clause-leads
returns-in-Some-clause-leads c = λ w e.
    place_is_read c.args.machine.now c.args.name.now c.in-Some.place w (sym c.in-Some.is ∙ c.in_ok-place.ensures w)

pub returns-in_ok-condition-in-None-clause-leads : goal.returns-in_ok-condition-in-None-clause-leads
returns-in_ok-condition-in-None-clause-leads c = λ w e.
    unbound_is_read c.args.machine.now c.args.name.now c.in_ok-condition-in-None.condition w (sym c.in-None.is ∙ c.in_ok-place.ensures w) e
    c.in_ok-condition-in-None.ensures
