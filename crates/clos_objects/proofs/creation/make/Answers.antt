use Rattle.std.proofs.Common.{map}
use Rattle.lisp_data.specs.ValueView.{value_of}
use Rattle.clos_machine.specs.clos_world.World.{seen}
use Rattle.clos_machine.specs.clos_meaning.Meaning.{meaning}
use Rattle.clos_objects.proofs.Making.{not_pairs, undesignated}
use Rattle.clos_objects.proofs.creation.make.Goals as goal

pub returns-then-not-are_pairs-clause-turns : goal.returns-then-not-are_pairs-clause-turns
returns-then-not-are_pairs-clause-turns c =
    not_pairs c.args.machine.now c.args.machine.now (meaning c.args.machine.now.room) (seen c.args.world.now) c.args.steps.now (value_of c.args.class) c.args.initargs (map value_of c.as_slice.result.now)
    c.plain.result c.if-not-are_pairs.ensures c.as_slice.ensures c.plain.ensures

pub returns-in-Err-clause-turns : goal.returns-in-Err-clause-turns
returns-in-Err-clause-turns c =
    undesignated c.args.machine.now c.args.machine.now (meaning c.args.machine.now.room) (seen c.args.world.now) c.args.steps.now (value_of c.args.class) c.args.initargs (map value_of c.as_slice.result.now)
    c.in-Err.stop c.if-not-are_pairs.ensures c.as_slice.ensures c.in-Err.ensures
