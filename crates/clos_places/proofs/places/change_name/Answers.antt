use Rattle.std.proofs.Common.{sym, ◌∙◌}
use Rattle.clos_machine.specs.clos_world.World.{seen}
use Rattle.clos_places.proofs.Naming.{place_is_changed, variable_is_changed}
use Rattle.clos_places.proofs.places.change_name.Goals as goal

pub returns-in-None-clause-turns : goal.returns-in-None-clause-turns
returns-in-None-clause-turns c =
    variable_is_changed c.args.machine.now c.args.name.now c.args.values (seen c.args.world.now) c.args.steps.now c.args.primitive c.change_only.result
    c.change_only.new.machine (seen c.change_only.new.world) c.change_only.new.steps (sym c.in-None.is ∙ c.in_ok-place_denoted.ensures (seen c.args.world.now))
    c.change_only.ensures.turns

pub returns-in_ok-append-in-Some-clause-turns : goal.returns-in_ok-append-in-Some-clause-turns
returns-in_ok-append-in-Some-clause-turns c =
    place_is_changed c.args.machine.now c.args.name.now c.args.values (seen c.args.world.now) c.args.steps.now c.args.primitive c.in-Some.place c.append.new.self
    (sym c.in-Some.is ∙ c.in_ok-place_denoted.ensures (seen c.args.world.now)) c.in_ok-append-in-Some.ensures
