use Rattle.std.proofs.Common.{map, refl, ◌∙◌}
use Rattle.lisp_data.specs.Value as value
use Rattle.lisp_data.specs.ValueView.{value_of}
use Rattle.clos_machine.specs.clos_world.World.{seen}
use Rattle.clos_machine.specs.clos_meaning.Bodies.{scoped}
use Rattle.clos_machine.specs.clos_meaning.Control.{sequence}
use Rattle.clos_machine.specs.clos_meaning.Meaning.{meaning}
use Rattle.clos_calls.proofs.Settled.{bound_stops, bound_goes}
use Rattle.clos_calls.proofs.bodies.run_bound.Goals as goal

pub returns-in-Err-clause-leads : goal.returns-in-Err-clause-leads
returns-in-Err-clause-leads c =
    bound_stops c.args.machine.now c.args.context (map value_of c.as_slice.result.now) c.args.names.now c.args.body.now (seen c.args.world.now) c.in-Err.stop _
    (c.as_slice.ensures ∙ c.arguments.ensures) c.in-Err.ensures

pub returns-in-Ok-clause-leads : goal.returns-in-Ok-clause-leads
returns-in-Ok-clause-leads c =
    bound_goes c.args.machine.now c.args.context (map value_of c.as_slice.result.now) c.args.names.now c.args.body.now (seen c.args.world.now) c.in-Ok.locals
    c.run_scoped.result c.run_scoped.new.machine (c.as_slice.ensures ∙ c.arguments.ensures) c.in-Ok.ensures
    (c.run_scoped.ensures.leads (scoped (sequence (meaning c.args.machine.now.room) c.args.context c.args.body.now (value.list value.nil)) c.in-Ok.locals) (seen c.args.world.now) (λ t. refl))
