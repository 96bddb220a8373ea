use Rattle.std.proofs.Common.{◌∙◌, sym}
use Rattle.lisp_data.specs.ValueView.{value_of}
use Rattle.clos_machine.specs.clos_world.World.{seen}
use Rattle.clos_machine.proofs.Runs.{global_unbound, global_no_step}
use Rattle.clos_places.proofs.assignment.store_globally.Goals as goal

pub returns-then-not-has-clause-turns : goal.returns-then-not-has-clause-turns
returns-then-not-has-clause-turns c =
    global_unbound c.args.machine.now c.args.name.now (value_of c.args.value) c.in_ok-condition.condition (seen c.args.world.now) c.args.steps.now
    (sym c.has.ensures ∙ c.if-not-has.true) c.in_ok-condition.ensures

pub returns-then-steps-eq0-clause-turns : goal.returns-then-steps-eq0-clause-turns
returns-then-steps-eq0-clause-turns c =
    global_no_step c.args.machine.now c.args.name.now (value_of c.args.value) c.plain.result (seen c.args.world.now) c.args.steps.now
    (sym c.has.ensures ∙ c.if-not-has.false) c.if-steps-eq0.true c.plain.ensures
