use Rattle.std.proofs.Common.{ap, sym, ◌∙◌}
use Rattle.lisp_data.specs.ValueView.{value_of}
use Rattle.clos_machine.specs.clos_world.Globals.{is_global}
use Rattle.clos_machine.specs.clos_world.World.{seen}
use Rattle.clos_calls.proofs.Settled.{parameter_stops}
use Rattle.clos_calls.proofs.bodies.next_parameter.Goals as goal

pub returns-then-has-clause-leads : goal.returns-then-has-clause-leads
returns-then-has-clause-leads c = λ t.
    parameter_stops c.args.machine.now c.args.defaulted (value_of c.args.value) (seen c.args.world.now) c.plain.result
    (sym c.if-has.true ∙ c.has.ensures ∙ ap (λ d. is_global (seen c.args.world.now).globals d.name) c.into_inner-name.ensures) c.plain.ensures t
