use Rattle.std.proofs.Common.{◌≡◌, ◌-◌, Err, min, arith, subst}
use Rattle.lisp_data.specs.DatumView.{datum_of}
use Rattle.clos_perform.specs.clos_machine.Machine.{AnswersWith}
use Rattle.clos_perform.specs.clos_world.declared.condition.Stop.TheVariants.{Refused}
use Rattle.clos_perform.specs.clos_machine.Uses.{KeepsBy}
use Rattle.clos_session.specs.Session.{Replies, answers_of, state_of}
use Rattle.clos_session.specs.Uses.{MakesUses, session_uses}
use Rattle.clos_perform.specs.Step.{step}
use Rattle.clos_session.specs.declared.session.Reply.TheVariants.{Value, Condition, Storage}
use Rattle.clos_session.proofs.Replies.{kept_stored, stored}
use Rattle.clos_session.proofs.session.Session.submit_within.Goals as goal

pub returns-in-Ok-clause-reply : goal.returns-in-Ok-clause-reply
returns-in-Ok-clause-reply g c =
    let old = c.args.self.now in
    let new = c.perform.new.self in
    let e : c.min-budget.result ≡ min c.args.steps old.world.limits.steps = omega (arith, c.min-budget.ensures) in
    subst (λ s. Replies (g.N.Natives.host old.natives) (step (datum_of c.args.datum.now)) s (state_of old) (answers_of old)
    (Value c.in-Ok.value) (state_of new) (answers_of new)) e
    (c.perform.new.steps, c.in-Ok.ensures.answers.0, c.in-Ok.ensures.answers.1, c.in-Ok.ensures.answers.2)

pub returns-in-Err-Refused-clause-reply : goal.returns-in-Err-Refused-clause-reply
returns-in-Err-Refused-clause-reply g c =
    let old = c.args.self.now in
    let new = c.perform.new.self in
    let e : c.min-budget.result ≡ min c.args.steps old.world.limits.steps = omega (arith, c.min-budget.ensures) in
    let h : AnswersWith (g.N.Natives.host old.natives) (step (datum_of c.args.datum.now)) (state_of old) c.min-budget.result
    (answers_of old) (Err (Refused c.in-Err-Refused.condition)) (state_of new) c.perform.new.steps (answers_of new) =
    rw c.in-Err-Refused.field-0-is at c.in-Err-Refused.ensures.answers in
    subst
    (λ s. Replies (g.N.Natives.host old.natives) (step (datum_of c.args.datum.now)) s (state_of old) (answers_of old)
    (Condition c.number.result c.in-Err-Refused.condition.items) (state_of new) (answers_of new))
    e (c.in-Err-Refused.condition.kind, c.perform.new.steps, h.0, c.number.ensures, h.1, h.2)

pub returns-in-Err-Storage-clause-reply : goal.returns-in-Err-Storage-clause-reply
returns-in-Err-Storage-clause-reply g c =
    let old = c.args.self.now in
    let new = c.perform.new.self in
    let e : c.min-budget.result ≡ min c.args.steps old.world.limits.steps = omega (arith, c.min-budget.ensures) in
    subst
    (λ s. Replies (g.N.Natives.host old.natives) (step (datum_of c.args.datum.now)) s (state_of old) (answers_of old)
    (Storage (c.min-budget.result - c.perform.new.steps)) (state_of new) (answers_of new))
    e (stored (g.N.Natives.host old.natives) (step (datum_of c.args.datum.now)) (state_of old) (state_of new) c.min-budget.result
    c.perform.new.steps
    (answers_of old) (answers_of new) c.in-Err-Storage.field-0 c.in-Err-Storage.field-0-is c.in-Err-Storage.ensures.answers)

pub returns-in-Ok-clause-uses : goal.returns-in-Ok-clause-uses
returns-in-Ok-clause-uses g c =
    let old = c.args.self.now in
    let new = c.perform.new.self in
    let e : c.min-budget.result ≡ min c.args.steps old.world.limits.steps = omega (arith, c.min-budget.ensures) in
    subst (λ s. MakesUses (g.N.Natives.host old.natives) (step (datum_of c.args.datum.now)) s (state_of old) (answers_of old) (session_uses old)
    (Value c.in-Ok.value) (answers_of new) (session_uses new)) e c.in-Ok.ensures.uses

pub returns-in-Err-Refused-clause-uses : goal.returns-in-Err-Refused-clause-uses
returns-in-Err-Refused-clause-uses g c =
    let old = c.args.self.now in
    let new = c.perform.new.self in
    let e : c.min-budget.result ≡ min c.args.steps old.world.limits.steps = omega (arith, c.min-budget.ensures) in
    let h : KeepsBy (g.N.Natives.host old.natives) (step (datum_of c.args.datum.now)) (state_of old) c.min-budget.result (answers_of old) (session_uses old)
    (Err (Refused c.in-Err-Refused.condition)) c.perform.new.steps (answers_of new) (session_uses new) =
    rw c.in-Err-Refused.field-0-is at c.in-Err-Refused.ensures.uses in
    subst (λ s. MakesUses (g.N.Natives.host old.natives) (step (datum_of c.args.datum.now)) s (state_of old) (answers_of old) (session_uses old)
    (Condition c.number.result c.in-Err-Refused.condition.items) (answers_of new) (session_uses new)) e h

pub returns-in-Err-Storage-clause-uses : goal.returns-in-Err-Storage-clause-uses
returns-in-Err-Storage-clause-uses g c =
    let old = c.args.self.now in
    let new = c.perform.new.self in
    let e : c.min-budget.result ≡ min c.args.steps old.world.limits.steps = omega (arith, c.min-budget.ensures) in
    subst (λ s. MakesUses (g.N.Natives.host old.natives) (step (datum_of c.args.datum.now)) s (state_of old) (answers_of old) (session_uses old)
    (Storage (c.min-budget.result - c.perform.new.steps)) (answers_of new) (session_uses new)) e
    (kept_stored (g.N.Natives.host old.natives) (step (datum_of c.args.datum.now)) (state_of old) c.min-budget.result c.perform.new.steps
    (answers_of old) (answers_of new) (session_uses old) (session_uses new) c.in-Err-Storage.field-0 c.in-Err-Storage.field-0-is
    c.in-Err-Storage.ensures.uses)
