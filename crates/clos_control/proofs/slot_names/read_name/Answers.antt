use Rattle.std.proofs.Common.{ap, subst, sym, ◌∙◌}
use Rattle.clos_machine.specs.Machine.{Leads, at, here}
use Rattle.clos_machine.specs.clos_meaning.SlotNames.{name_read, place_denoted}
use Rattle.clos_machine.specs.clos_meaning.Variables.{found_value}
use Rattle.clos_machine.specs.clos_world.World.{seen}
use Rattle.clos_control.proofs.slot_names.read_name.Goals as goal

pub returns-in-None-clause-leads : goal.returns-in-None-clause-leads
returns-in-None-clause-leads c =
    subst (λ n. Leads (here c.args.machine.now (λ ev env w. name_read ev env n (place_denoted w n) w)) (seen c.args.world.now) c.read_place.result c.read_place.new.machine)
    c.name.ensures
    (c.read_place.ensures.leads (seen c.args.world.now) (c.in-None.ensures ∙ ap (found_value (at c.args.machine.now (seen c.args.world.now))) (sym c.name.ensures)))
