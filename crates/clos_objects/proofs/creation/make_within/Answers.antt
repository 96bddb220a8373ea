use Rattle.std.proofs.Common.{ap, drop, refl, sym, ◌∙◌}
use Rattle.clos_machine.specs.clos_world.World.{seen}
use Rattle.clos_machine.specs.clos_meaning.Meaning.{meaning}
use Rattle.clos_objects.specs.Objects.{default_first, ungiven}
use Rattle.clos_objects.proofs.Making.{makes_after, makes_at_once, within_less}
use Rattle.clos_objects.proofs.creation.make_within.Goals as goal

pub returns-in-None-clause-turns : goal.returns-in-None-clause-turns
returns-in-None-clause-turns c =
    makes_at_once c.args.machine.now c.enter.new.machine c.allocate.new.machine c.args.initargs c.args.class.0 c.args.effective (seen c.args.world.now) c.args.steps.now c.allocate.result
    (seen c.allocate.new.world) c.allocate.new.steps c.in_ok-enter.ensures
    (ap (λ us. ungiven us c.args.effective.defaults) (sym c.as_slice.ensures) ∙ c.in-None.ensures.value) c.allocate.ensures.turns

pub returns-in-Some-clause-turns : goal.returns-in-Some-clause-turns
returns-in-Some-clause-turns c =
    makes_after c.args.machine.now c.enter.new.machine c.evaluate_default.new.machine c.args.initargs c.args.class.0 c.args.effective (seen c.args.world.now) c.args.steps.now c.evaluate_default.result
    c.in-Some.place c.in_ok-enter.ensures c.in-Some.ensures.within
    (ap (λ us. ungiven us c.args.effective.defaults) (sym c.as_slice.ensures) ∙ c.in-Some.ensures.value)
    (c.evaluate_default.ensures.leads (default_first (meaning c.enter.new.machine.room) c.enter.new.machine.context c.args.class.0 c.args.effective (drop c.in-Some.place c.args.effective.defaults) c.args.initargs)
    (seen c.args.world.now) (λ t. refl))

pub returns-in-None-clause-small : goal.returns-in-None-clause-small
returns-in-None-clause-small c =
    within_less c.args.machine.now c.enter.new.machine c.allocate.new.machine c.args.steps.now c.allocate.new.steps c.allocate.result c.in_ok-enter.ensures c.allocate.ensures.small
