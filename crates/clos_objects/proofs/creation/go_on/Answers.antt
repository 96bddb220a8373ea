use Rattle.std.proofs.Common.{ap, drop, sym, ◌∙◌}
use Rattle.clos_machine.specs.clos_meaning.Initialization.{defaulted}
use Rattle.clos_machine.specs.Machine.{at, resume}
use Rattle.clos_machine.specs.clos_meaning.Meaning.{closed, meaning}
use Rattle.clos_objects.specs.Objects.{ungiven}
use Rattle.clos_objects.proofs.Making.{defaulted_first, defaulted_none}
use Rattle.clos_objects.proofs.creation.go_on.Goals as goal

pub returns-in-None-clause-leads : goal.returns-in-None-clause-leads
returns-in-None-clause-leads c = λ w t.
    ap (λ o. closed (resume c.args.machine.now.levels c.args.machine.now.context o))
    (defaulted_none c.args.initargs (meaning c.args.machine.now.room) c.args.machine.now.context c.args.class.0 c.args.effective (at c.args.machine.now w) t (drop c.args.from c.args.effective.defaults)
    (ap (λ us. ungiven us (drop c.args.from c.args.effective.defaults)) (sym c.as_slice.ensures) ∙ c.in-None.ensures.value))

pub returns-in-Some-clause-leads : goal.returns-in-Some-clause-leads
returns-in-Some-clause-leads c = λ w.
    c.evaluate_default.ensures.leads (defaulted (meaning c.args.machine.now.room) c.args.machine.now.context c.args.class.0 c.args.effective (drop c.args.from c.args.effective.defaults) c.args.initargs) w
    (λ t. defaulted_first c.args.initargs (meaning c.args.machine.now.room) c.args.machine.now.context c.args.class.0 c.args.effective (at c.args.machine.now w) t
    (drop c.args.from c.args.effective.defaults) c.args.effective.defaults c.in-Some.place c.in-Some.ensures.within
    (ap (λ us. ungiven us (drop c.args.from c.args.effective.defaults)) (sym c.as_slice.ensures) ∙ c.in-Some.ensures.value))
