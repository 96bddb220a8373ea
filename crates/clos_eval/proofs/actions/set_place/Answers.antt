use Rattle.std.proofs.Common.{subst, sym}
use Rattle.clos_machine.specs.clos_world.Uses.{uses_of}
use Rattle.clos_machine.specs.clos_world.World.{seen}
use Rattle.clos_machine.specs.clos_meaning.Calls.{called_setter}
use Rattle.clos_machine.specs.clos_meaning.Functions.{place_set}
use Rattle.clos_machine.specs.clos_meaning.Meaning.{meaning}
use Rattle.clos_machine.specs.Machine.{access_of, inside}
use Rattle.clos_machine.specs.Uses.{LeadsBy, TurnsBy}
use Rattle.clos_machine.specs.declared.machine.Target.{Target}
use Rattle.clos_machine.proofs.Uses.{turns_by}
use Rattle.clos_eval.proofs.actions.set_place.Goals as goal

pub returns-in-Call-clause-turns : goal.returns-in-Call-clause-turns
returns-in-Call-clause-turns c =
    let m = c.args.machine.now in
    subst (λ (k : Target). TurnsBy (inside m (place_set (meaning m.room) m.context (access_of k) c.args.values)) (seen c.args.world.now) c.args.steps.now (uses_of c.args.world.now)
    c.call_setter.result c.call_setter.new.machine (seen c.call_setter.new.world) c.args.steps.now (uses_of c.call_setter.new.world)) (sym c.in-Call.is)
    (turns_by (inside m (called_setter (meaning m.room) c.in-Call.name c.args.values)) (seen c.args.world.now) (seen c.call_setter.new.world) c.args.steps.now
    (uses_of c.args.world.now) (uses_of c.call_setter.new.world) c.call_setter.result c.call_setter.new.machine c.call_setter.ensures.same
    (subst (λ x. LeadsBy (inside m (called_setter (meaning m.room) x c.args.values)) (seen c.args.world.now) (uses_of c.args.world.now) c.call_setter.result c.call_setter.new.machine
    (uses_of c.call_setter.new.world)) c.name.ensures c.call_setter.ensures.leads))
