use Rattle.std.proofs.Common.{ap, drop, ◌++◌, ◌∷◌, [], ◌∙◌}
use Rattle.lisp_data.specs.ValueView.{value_of}
use Rattle.clos_objects.proofs.Making.{nothing_given, one_given}
use Rattle.clos_objects.proofs.creation.next_default.Goals as goal

pub returns-in_default-clause-leads : goal.returns-in_default-clause-leads
returns-in_default-clause-leads c = λ w.
    nothing_given c.args.machine.now c.args.machine.now c.args.class.0 c.args.effective c.args.initargs (value_of c.args.value) w (drop c.args.place c.args.effective.defaults) c.plain.result
    c.in_default.ensures c.plain.ensures

pub returns-clause-leads : goal.returns-clause-leads
returns-clause-leads c = λ w.
    one_given c.args.machine.now c.go_on.new.machine c.args.class.0 c.args.effective c.args.initargs (value_of c.args.value) w (drop c.args.place c.args.effective.defaults)
    c.in-Some.default.now (drop c.in-Some.next c.args.effective.defaults) c.push-2.new.self (value_of c.in-Ok.name) c.go_on.result
    c.in-Some.ensures c.in-Ok.ensures (c.in_ok-push.ensures ∙ ap (λ l. l ++ value_of c.args.value ∷ []) c.in-Ok-push.ensures) (c.go_on.ensures.leads w)
