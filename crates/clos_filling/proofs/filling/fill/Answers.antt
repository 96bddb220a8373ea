use Rattle.clos_machine.specs.Machine.{at, slots_left, subject_of, fill_with}
use Rattle.std.proofs.Common.{ap, drop, refl, subst, sym}
use Rattle.lisp_data.specs.ValueView.{value_of}
use Rattle.clos_machine.specs.clos_world.World.{seen}
use Rattle.clos_machine.specs.clos_meaning.Meaning.{meaning}
use Rattle.clos_machine.specs.clos_meaning.Outcome.{then_do}
use Rattle.clos_filling.specs.Fillers.{Finds, filler_in}
use Rattle.clos_filling.proofs.Passing.{fill_ends, fill_evaluates, fill_goes}
use Rattle.clos_filling.proofs.filling.fill.Goals as goal

pub returns-in-None-clause-turns : goal.returns-in-None-clause-turns
returns-in-None-clause-turns c =
    fill_ends c.args.machine.now (subject_of c.args.filling.value) (slots_left c.args.filling.value) c.deref-in-None.result.now.instance (seen c.args.world.now) c.args.steps.now
    (subst (Finds (seen c.args.world.now) (subject_of c.args.filling.value) c.args.filling.value.effective.slots (slots_left c.args.filling.value)) c.in-None.is (rw c.deref.ensures at c.in_ok-next_filler.ensures))
    (ap (λ x. x.instance.0) (sym c.deref-in-None.ensures))

pub returns-in-Value-clause-turns : goal.returns-in-Value-clause-turns
returns-in-Value-clause-turns c =
    let f = subst (Finds (seen c.args.world.now) (subject_of c.args.filling.value) c.args.filling.value.effective.slots (slots_left c.args.filling.value)) c.in-Some.is
    (rw c.deref.ensures at c.in_ok-next_filler.ensures) in
    fill_goes c.args.machine.now (subject_of c.args.filling.value) c.args.machine.now (slots_left c.args.filling.value) (drop c.in-Some.place c.args.filling.value.effective.slots)
    c.in-Some.found (value_of c.in-Value.value) (seen c.args.world.now) c.args.steps.now c.fill_first.result (seen c.fill_first.new.world) c.fill_first.new.steps
    (ap filler_in c.in-Value.is) f.0 f.1 (rw c.at_place-filling.ensures at c.fill_first.ensures.turns)

pub returns-in-Initform-clause-turns : goal.returns-in-Initform-clause-turns
returns-in-Initform-clause-turns c =
    let f = subst (Finds (seen c.args.world.now) (subject_of c.args.filling.value) c.args.filling.value.effective.slots (slots_left c.args.filling.value)) c.in-Some.is
    (rw c.deref.ensures at c.in_ok-next_filler.ensures) in
    fill_evaluates c.args.machine.now (subject_of c.args.filling.value) c.begin.new.machine (slots_left c.args.filling.value) (drop c.in-Some.place c.args.filling.value.effective.slots)
    c.in-Some.found c.in-Initform.form (seen c.args.world.now) c.args.steps.now c.begin.result c.in-Initform.is f.0 f.1
    (c.begin.ensures.leads (λ u k. then_do (meaning c.args.machine.now.room c.args.machine.now.context c.in-Initform.form u k)
    (λ v. fill_with (meaning c.args.machine.now.room) c.args.machine.now.context (subject_of c.args.filling.value) (drop c.in-Some.place c.args.filling.value.effective.slots) v)) (seen c.args.world.now) refl
    (λ t. ap (λ x. then_do (meaning c.args.machine.now.room c.args.machine.now.context c.in-Initform.form (at c.args.machine.now (seen c.args.world.now)) t)
    (λ v. fill_with (meaning c.args.machine.now.room) c.args.machine.now.context (subject_of x) (slots_left x) v)) c.at_place-filling.ensures))
