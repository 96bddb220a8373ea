use Rattle.std.proofs.Common.{◌≡◌, ◌<◌, length, rules}
use Rattle.std.proofs.lemmas.Result.{IfOk-weaker}
use Rattle.clos_commentary.specs.clos_system.clos_session.Session.{standing_of}
use Rattle.clos_prompt.specs.WaitingView.{waiting_of}
use Rattle.clos_prompt.proofs.Going.{breaks, breaks_in, ends, stands_first, stands_on, whatever_fails}
use Rattle.clos_prompt.proofs.prompt.answer_lines.Goals as goal

pub loop-init : goal.loop-init
loop-init g c =
    stands_first (g.N.Natives.host c.args.session.now.natives) (g.I.Read.remaining c.args.input.now)
    (standing_of (g.D.Dependents.told c.args.session.now.dependents) c.args.session.now) (waiting_of c.new-prompt.result)
    (g.W.Write.contents c.args.output.now) c.new-prompt.ensures

pub returns-in_default-clause-breaks : goal.returns-in_default-clause-breaks
returns-in_default-clause-breaks g c =
    breaks (g.N.Natives.host c.args.session.now.natives) (g.N.Natives.host c.loop.session.natives)
    (g.I.Read.remaining c.args.input.now) (g.I.Read.remaining c.loop.input)
    (standing_of (g.D.Dependents.told c.args.session.now.dependents) c.args.session.now)
    (standing_of (g.D.Dependents.told c.loop.session.dependents) c.loop.session) (waiting_of c.loop.prompt)
    (g.W.Write.contents c.args.output.now) (g.W.Write.contents c.loop.output) c.loop.invariant

pub returns-in-Err-clause-breaks : goal.returns-in-Err-clause-breaks
returns-in-Err-clause-breaks g c =
    breaks (g.N.Natives.host c.args.session.now.natives) (g.N.Natives.host c.loop.session.natives)
    (g.I.Read.remaining c.args.input.now) (g.I.Read.remaining c.loop.input)
    (standing_of (g.D.Dependents.told c.args.session.now.dependents) c.args.session.now)
    (standing_of (g.D.Dependents.told c.loop.session.dependents) c.loop.session) (waiting_of c.loop.prompt)
    (g.W.Write.contents c.args.output.now) (g.W.Write.contents c.loop.output) c.loop.invariant

pub returns-then-is_empty-clause-ends : goal.returns-then-is_empty-clause-ends
returns-then-is_empty-clause-ends g c =
    let none : length c.in-Ok-next_line.line.items ≡ 0 = search rules in
    IfOk-weaker c.leave.result _ _ (λ r leaves. ends (g.N.Natives.host c.args.session.now.natives) (g.N.Natives.host c.loop.session.natives)
    (g.I.Read.remaining c.args.input.now) (g.I.Read.remaining c.loop.input)
    (standing_of (g.D.Dependents.told c.args.session.now.dependents) c.args.session.now)
    (standing_of (g.D.Dependents.told c.loop.session.dependents) c.loop.session) (waiting_of c.loop.prompt)
    (g.W.Write.contents c.args.output.now) (g.W.Write.contents c.loop.output) c.loop.invariant
    (g.I.Read.remaining c.next_line.new.input) c.in-Ok-next_line.line.items (g.W.Write.contents c.ask.new.output)
    (g.W.Write.contents c.leave.new.output) r c.in-Ok.ensures c.in-Ok-next_line.ensures none leaves) c.leave.ensures

pub returns-then-is_empty-clause-breaks : goal.returns-then-is_empty-clause-breaks
returns-then-is_empty-clause-breaks g c =
    whatever_fails c.leave.result _ (breaks (g.N.Natives.host c.args.session.now.natives) (g.N.Natives.host c.loop.session.natives)
    (g.I.Read.remaining c.args.input.now) (g.I.Read.remaining c.loop.input)
    (standing_of (g.D.Dependents.told c.args.session.now.dependents) c.args.session.now)
    (standing_of (g.D.Dependents.told c.loop.session.dependents) c.loop.session) (waiting_of c.loop.prompt)
    (g.W.Write.contents c.args.output.now) (g.W.Write.contents c.loop.output) c.loop.invariant)

pub loop-preserved : goal.loop-preserved
loop-preserved g c =
    let some : 0 < length c.in-Ok-next_line.line.items = search rules in
    stands_on (g.N.Natives.host c.args.session.now.natives) (g.N.Natives.host c.loop.session.natives)
    (g.I.Read.remaining c.args.input.now) (g.I.Read.remaining c.loop.input)
    (standing_of (g.D.Dependents.told c.args.session.now.dependents) c.args.session.now)
    (standing_of (g.D.Dependents.told c.loop.session.dependents) c.loop.session) (waiting_of c.loop.prompt)
    (g.W.Write.contents c.args.output.now) (g.W.Write.contents c.loop.output) c.loop.invariant
    (g.N.Natives.host c.answer_line.new.session.natives) (g.I.Read.remaining c.next_line.new.input)
    (standing_of (g.D.Dependents.told c.answer_line.new.session.dependents) c.answer_line.new.session)
    (waiting_of c.in-Ok-answer_line.next) c.in-Ok-next_line.line.items c.as_slice.result.now (g.W.Write.contents c.ask.new.output)
    (g.W.Write.contents c.answer_line.new.output) c.in-Ok-answer_line.ensures.host c.in-Ok.ensures c.in-Ok-next_line.ensures some
    c.as_slice.ensures.value c.in-Ok-answer_line.ensures.answers

pub returns-clause-breaks : goal.returns-clause-breaks
returns-clause-breaks g c =
    breaks (g.N.Natives.host c.args.session.now.natives) (g.N.Natives.host c.loop.session.natives)
    (g.I.Read.remaining c.args.input.now) (g.I.Read.remaining c.loop.input)
    (standing_of (g.D.Dependents.told c.args.session.now.dependents) c.args.session.now)
    (standing_of (g.D.Dependents.told c.loop.session.dependents) c.loop.session) (waiting_of c.loop.prompt)
    (g.W.Write.contents c.args.output.now) (g.W.Write.contents c.loop.output) c.loop.invariant

pub returns-in-Err-answer_line-clause-breaks : goal.returns-in-Err-answer_line-clause-breaks
returns-in-Err-answer_line-clause-breaks g c =
    breaks_in (g.N.Natives.host c.args.session.now.natives) (g.N.Natives.host c.loop.session.natives)
    (g.I.Read.remaining c.args.input.now) (g.I.Read.remaining c.loop.input)
    (standing_of (g.D.Dependents.told c.args.session.now.dependents) c.args.session.now)
    (standing_of (g.D.Dependents.told c.loop.session.dependents) c.loop.session) (waiting_of c.loop.prompt)
    (g.W.Write.contents c.args.output.now) (g.W.Write.contents c.loop.output) c.loop.invariant
    (g.I.Read.remaining c.next_line.new.input)
    (standing_of (g.D.Dependents.told c.answer_line.new.session.dependents) c.answer_line.new.session) c.in-Ok-next_line.line.items
    c.as_slice.result.now c.in-Ok-next_line.ensures c.as_slice.ensures.value c.in-Err-answer_line.ensures.stops
