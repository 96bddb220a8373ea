use Rattle.std.proofs.Common.{map, sym}
use Rattle.lisp_data.specs.ValueView.{value_of}
use Rattle.clos_eval.proofs.Asking.{is_known, unknown}
use Rattle.clos_eval.proofs.natives.answer_of.Goals as goal

pub returns-in_ok-condition-in-None : goal.returns-in_ok-condition-in-None
returns-in_ok-condition-in-None g c =
    unknown (g.N.Natives.host c.args.natives.now) c.args.name.now (map value_of c.args.arguments.now) c.args.steps.now
    c.args.answers.now.items c.in_ok-condition-in-None.condition (sym c.in-None.ensures)
    c.in_ok-condition-in-None.ensures

pub returns-in-Some : goal.returns-in-Some
returns-in-Some g c =
    is_known (g.N.Natives.host c.args.natives.now) c.args.name.now (map value_of c.args.arguments.now) c.args.steps.now
    c.args.answers.now.items c.in-Some.count c.answer_to_values.result
    c.answer_to_values.new.steps c.answer_to_values.new.answers.items (sym c.in-Some.ensures) c.answer_to_values.ensures
