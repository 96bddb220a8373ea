use Rattle.std.proofs.Common.{◌≡◌, Ok, Some, ap, arith, length, map, sym, ◌∙◌}
use Rattle.std.proofs.lemmas.List.{length-map}
use Rattle.lisp_data.specs.ValueView.{value_of}
use Rattle.clos_eval.proofs.Asking.{as_many, not_integers, too_many_or_few, with_integers}
use Rattle.clos_eval.proofs.natives.answer_to_values.Goals as goal

pub returns-then-arguments-count : goal.returns-then-arguments-count
returns-then-arguments-count g c =
    too_many_or_few (g.N.Natives.host c.args.natives.now) c.args.name.now c.args.count (map value_of c.args.arguments.now) c.args.steps.now
    c.args.answers.now.items c.plain.result
    (λ e. c.if-arguments-count.true (sym (length-map c.args.arguments.now value_of) ∙ e)) c.plain.ensures

pub returns-in-Err : goal.returns-in-Err
returns-in-Err g c =
    not_integers (g.N.Natives.host c.args.natives.now) c.args.name.now c.args.count (map value_of c.args.arguments.now) c.args.steps.now
    c.args.answers.now.items c.in-Err.stop
    (length-map c.args.arguments.now value_of ∙ omega (arith, c.if-arguments-count.false)) c.in-Err.ensures.stop

pub ask-requires : goal.ask-requires
ask-requires g c =
    let e : length c.as_slice.result.now ≡ c.args.count =
    as_many (map value_of c.args.arguments.now) c.as_slice.result.now (c.in-Ok.ensures.values ∙ ap Ok (sym c.as_slice.ensures.value))
    ∙ length-map c.args.arguments.now value_of ∙ omega (arith, c.if-arguments-count.false) in
    c.requires ∙ ap Some (sym e)

pub returns-in-Ok : goal.returns-in-Ok
returns-in-Ok g c =
    with_integers (g.N.Natives.host c.args.natives.now) c.args.name.now c.args.count (map value_of c.args.arguments.now)
    c.as_slice.result.now c.args.steps.now c.ask.new.steps c.args.answers.now.items
    c.ask.new.answers.items c.ask.result (length-map c.args.arguments.now value_of ∙ omega (arith, c.if-arguments-count.false))
    (c.in-Ok.ensures.values ∙ ap Ok (sym c.as_slice.ensures.value)) c.ask.ensures
