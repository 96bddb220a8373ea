use Rattle.std.proofs.Common.{Err, sym, ◌∙◌}
use Rattle.clos_machine.specs.clos_world.Uses.{uses_of}
use Rattle.clos_machine.specs.clos_world.World.{seen}
use Rattle.clos_machine.specs.clos_world.declared.condition.Stop.TheVariants.{Refused}
use Rattle.clos_machine.specs.Machine.{inside}
use Rattle.clos_machine.specs.clos_meaning.Meaning.{meaning}
use Rattle.clos_machine.specs.clos_meaning.SystemMethods.{system_method_run}
use Rattle.clos_machine.proofs.Uses.{turns_none_of}
use Rattle.clos_objects.proofs.Methods.{no_arguments}
use Rattle.clos_objects.proofs.system_methods.run_system_method.Goals as goal

pub returns-in-None-clause-turns : goal.returns-in-None-clause-turns
returns-in-None-clause-turns c =
    turns_none_of (inside c.args.machine.now (system_method_run (meaning c.args.machine.now.room) c.args.function c.args.arguments.now)) (seen c.args.world.now) c.args.steps.now (uses_of c.args.world.now)
    (Err (Refused c.plain.result)) c.args.machine.now
    (no_arguments c.args.machine.now c.args.machine.now (seen c.args.world.now) (meaning c.args.machine.now.room) c.args.function c.args.arguments.now c.plain.result
    (sym c.as_slice.ensures ∙ c.in-None.ensures) c.plain.ensures)
