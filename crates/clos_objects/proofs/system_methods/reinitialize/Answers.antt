use Rattle.std.proofs.Common.{Err, map, refl, subst, sym}
use Rattle.lisp_data.specs.ValueView.{value_of}
use Rattle.clos_machine.specs.clos_world.Uses.{uses_of}
use Rattle.clos_machine.specs.clos_world.World.{seen}
use Rattle.clos_machine.specs.Machine.{inside}
use Rattle.clos_machine.specs.Uses.{TurnsBy}
use Rattle.clos_machine.specs.clos_meaning.Meaning.{meaning}
use Rattle.clos_machine.specs.clos_meaning.Slots.{instance_in}
use Rattle.clos_machine.specs.clos_meaning.SystemMethods.{reinitialize}
use Rattle.clos_machine.proofs.Uses.{turns_none_of}
use Rattle.clos_objects.proofs.Methods.{no_instance}
use Rattle.clos_objects.proofs.system_methods.reinitialize.Goals as goal

pub returns-in-Err-clause-turns : goal.returns-in-Err-clause-turns
returns-in-Err-clause-turns c =
    let m = c.args.machine.now in
    turns_none_of (inside m (reinitialize (meaning m.room) (map value_of c.args.initargs.now) (instance_in (value_of c.args.object.now)))) (seen c.args.world.now) c.args.steps.now (uses_of c.args.world.now)
    (Err c.in-Err.stop) m
    (no_instance m m (seen c.args.world.now) (reinitialize (meaning m.room) (map value_of c.args.initargs.now))
    (instance_in (value_of c.args.object.now)) c.in-Err.stop (λ d t. refl) c.in-Err.ensures)

pub returns-in-Ok-clause-turns : goal.returns-in-Ok-clause-turns
returns-in-Ok-clause-turns c =
    let m = c.args.machine.now in
    subst (λ d. TurnsBy (inside m (reinitialize (meaning m.room) (map value_of c.args.initargs.now) d)) (seen c.args.world.now) c.args.steps.now (uses_of c.args.world.now)
    c.update_and_reinitialize.result c.update_and_reinitialize.new.machine (seen c.update_and_reinitialize.new.world) c.update_and_reinitialize.new.steps
    (uses_of c.update_and_reinitialize.new.world)) (sym c.in-Ok.ensures)
    c.update_and_reinitialize.ensures.turns
