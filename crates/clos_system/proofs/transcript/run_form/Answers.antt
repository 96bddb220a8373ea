use Rattle.std.proofs.Common.{◌≡◌, ◌-◌, ◌++◌, ◌∙◌, ap, length, refl, rules, subst}
use Rattle.lisp_data.specs.DatumView.{datum_of}
use Rattle.clos_session.specs.Session.{answers_of, state_of}
use Rattle.clos_session.specs.clos_perform.Step.{step}
use Rattle.clos_session.specs.Uses.{session_uses}
use Rattle.clos_session.specs.clos_machine.Machine.{AnswersWith}
use Rattle.clos_session.specs.clos_machine.Uses.{KeepsBy}
use Rattle.clos_session.specs.clos_world.World.{State}
use Rattle.clos_transcript.specs.Told.{ends_line, told_for}
use Rattle.clos_system.proofs.transcript.run_form.Goals as goal

pub returns-in_default-clause-fails : goal.returns-in_default-clause-fails
returns-in_default-clause-fails g c =
    let old = c.args.session.now in
    let new = c.perform-answer.new in (
      record {
        answer = c.perform-answer.result;
        left = new.steps;
        answers =
            subst (λ s. AnswersWith (g.N.Natives.host old.natives) (step (datum_of c.args.datum)) (state_of old) s (answers_of old)
            c.perform-answer.result (state_of new.self) new.steps (answers_of new.self))
            (ap (λ (w : State). w.limits.steps) c.world.ensures) c.perform-answer.ensures.answers;
        uses =
            subst (λ s. KeepsBy (g.N.Natives.host old.natives) (step (datum_of c.args.datum)) (state_of old) s (answers_of old) (session_uses old)
            c.perform-answer.result new.steps (answers_of new.self) (session_uses new.self))
            (ap (λ (w : State). w.limits.steps) c.world.ensures) c.perform-answer.ensures.uses;
        heard = c.perform-answer.ensures.heard;
      },
      refl,
    )

pub returns-then-is_err-clause-fails : goal.returns-then-is_err-clause-fails
returns-then-is_err-clause-fails g c =
    let old = c.args.session.now in
    let new = c.perform-answer.new in
    record {
      answer = c.perform-answer.result;
      left = new.steps;
      answers =
          subst (λ s. AnswersWith (g.N.Natives.host old.natives) (step (datum_of c.args.datum)) (state_of old) s (answers_of old)
          c.perform-answer.result (state_of new.self) new.steps (answers_of new.self))
          (ap (λ (w : State). w.limits.steps) c.world.ensures) c.perform-answer.ensures.answers;
      uses =
          subst (λ s. KeepsBy (g.N.Natives.host old.natives) (step (datum_of c.args.datum)) (state_of old) s (answers_of old) (session_uses old)
          c.perform-answer.result new.steps (answers_of new.self) (session_uses new.self))
          (ap (λ (w : State). w.limits.steps) c.world.ensures) c.perform-answer.ensures.uses;
      heard = c.perform-answer.ensures.heard;
    }

pub returns-clause-performs : goal.returns-clause-performs
returns-clause-performs g c =
    let old = c.args.session.now in
    let new = c.perform-answer.new in
    let taken : c.saturating_sub-taken.result ≡ (state_of old).limits.steps - new.steps =
    c.saturating_sub-taken.ensures ∙ ap (λ (w : State). w.limits.steps - new.steps) c.world.ensures in
    record {
      answer = c.perform-answer.result;
      left = new.steps;
      answers =
          subst (λ s. AnswersWith (g.N.Natives.host old.natives) (step (datum_of c.args.datum)) (state_of old) s (answers_of old)
          c.perform-answer.result (state_of new.self) new.steps (answers_of new.self))
          (ap (λ (w : State). w.limits.steps) c.world.ensures) c.perform-answer.ensures.answers;
      uses =
          subst (λ s. KeepsBy (g.N.Natives.host old.natives) (step (datum_of c.args.datum)) (state_of old) s (answers_of old) (session_uses old)
          c.perform-answer.result new.steps (answers_of new.self) (session_uses new.self))
          (ap (λ (w : State). w.limits.steps) c.world.ensures) c.perform-answer.ensures.uses;
      heard = c.perform-answer.ensures.heard;
      counts = c.counted-counts.ensures.counts;
      piece = c.in-Ok.piece.items;
      appends = search rules;
      tells = λ out e.
          c.in-Ok.ensures out (state_of old) e (ap length c.written-from.ensures)
          ∙ ap (λ (w : State). told_for c.args.echo (state_of old) w c.perform-answer.result c.saturating_sub-taken.result out)
          c.world-world.ensures
          ∙ ap (λ k. told_for c.args.echo (state_of old) (state_of new.self) c.perform-answer.result k out) taken;
      line = λ out e. c.ends_line-line.ensures out e ∙ ap (λ p. ends_line (out ++ p)) c.as_slice-2.ensures.value;
    }

pub returns-clause-answers : goal.returns-clause-answers
returns-clause-answers g c =
    let old = c.args.session.now in
    let new = c.perform-answer.new in (
      refl,
      (
        new.steps,
        subst (λ s. AnswersWith (g.N.Natives.host old.natives) (step (datum_of c.args.datum)) (state_of old) s (answers_of old)
            c.perform-answer.result (state_of new.self) new.steps (answers_of new.self))
            (ap (λ (w : State). w.limits.steps) c.world.ensures) c.perform-answer.ensures.answers,
      ),
      c.counted-counts.ensures.counts,
    )
