use Rattle.std.proofs.Common.{Ok, ap, rules, subst, to_z, of_z, w64}
use Rattle.std.proofs.lemmas.Int.{to_z-of_z}
use Rattle.lisp_data.specs.declared.value.Value.TheVariants.{Int}
use Rattle.clos_machine.specs.clos_meaning.Natives.{native_called}
use Rattle.clos_eval.specs.Natives.{Calls}
use Rattle.clos_eval.proofs.Asking.{asks_law, notes_law}
use Rattle.clos_eval.proofs.natives.call_native.Goals as goal

pub returns-in-Ok-clause-asks : goal.returns-in-Ok-clause-asks
returns-in-Ok-clause-asks g c = λ w.
    asks_law (g.N.Natives.host c.args.natives.now) c.args.values.now c.args.steps.now c.args.answers.now.items c.in-Ok.answer
    (Int (to_z w64 (of_z w64 c.in-Ok.answer))) c.answer_to.new.steps
    c.answer_to.new.answers.items (ap Int (to_z-of_z w64 c.in-Ok.answer (search rules)))
    (subst (λ vs. Calls (g.N.Natives.host c.args.natives.now) (native_called vs) c.args.steps.now c.args.answers.now.items
    (Ok c.in-Ok.answer) c.answer_to.new.steps c.answer_to.new.answers.items)
    c.as_slice.ensures c.in-Ok.ensures) c.args.machine.now w

pub returns-in-Ok-clause-notes : goal.returns-in-Ok-clause-notes
returns-in-Ok-clause-notes g c = λ w u.
    notes_law (g.N.Natives.host c.args.natives.now) c.args.values.now c.args.steps.now c.args.answers.now.items c.in-Ok.answer
    (Int (to_z w64 (of_z w64 c.in-Ok.answer))) c.answer_to.new.steps
    c.answer_to.new.answers.items (ap Int (to_z-of_z w64 c.in-Ok.answer (search rules)))
    (subst (λ vs. Calls (g.N.Natives.host c.args.natives.now) (native_called vs) c.args.steps.now c.args.answers.now.items
    (Ok c.in-Ok.answer) c.answer_to.new.steps c.answer_to.new.answers.items)
    c.as_slice.ensures c.in-Ok.ensures) c.args.machine.now w u
