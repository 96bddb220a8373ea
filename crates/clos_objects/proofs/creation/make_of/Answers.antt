use Rattle.std.proofs.Common.{sym, ◌∙◌}
use Rattle.clos_machine.specs.clos_world.World.{seen}
use Rattle.clos_machine.specs.clos_meaning.Meaning.{meaning}
use Rattle.clos_objects.proofs.Making.{not_complete}
use Rattle.clos_objects.proofs.creation.make_of.Goals as goal

pub returns-in-None-clause-turns : goal.returns-in-None-clause-turns
returns-in-None-clause-turns c =
    not_complete c.args.machine.now c.args.machine.now (meaning c.args.machine.now.room) (seen c.args.world.now) c.args.steps.now c.args.initargs c.args.class.0 c.plain.result (sym c.in-None.is ∙ c.in_ok-find.ensures) c.plain.ensures
