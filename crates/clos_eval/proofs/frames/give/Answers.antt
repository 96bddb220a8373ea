use Rattle.std.proofs.Common.{sym, subst, refl}
use Rattle.lisp_data.specs.ValueView.{value_of}
use Rattle.clos_machine.specs.clos_world.World.{seen}
use Rattle.clos_machine.specs.Machine.{Leads, given_to, after}
use Rattle.clos_machine.specs.clos_meaning.Meaning.{meaning}
use Rattle.clos_machine.specs.declared.machine.Frame.TheVariants.{Rest, Keep, Clause, Collect, Scope, InOrder, Aside, Count, Turn, Setq, Setf, Slots}
use Rattle.clos_eval.proofs.frames.give.Goals as goal

pub returns-in-Rest-clause-leads : goal.returns-in-Rest-clause-leads
returns-in-Rest-clause-leads c =
    subst (λ f. Leads (given_to c.args.machine.now f (value_of c.args.value)) (seen c.args.world.now) c.follow.result c.follow.new.machine) (sym c.in-Rest.is)
    (c.follow.ensures.leads (λ u k. after (meaning c.args.machine.now.room) c.args.machine.now.context (Rest c.in-Rest.control c.in-Rest.rest) (value_of c.args.value) u k) (seen c.args.world.now) (λ t. refl))

pub returns-in-Keep-clause-leads : goal.returns-in-Keep-clause-leads
returns-in-Keep-clause-leads c =
    subst (λ f. Leads (given_to c.args.machine.now f (value_of c.args.value)) (seen c.args.world.now) c.keep.result c.keep.new.machine) (sym c.in-Keep.is)
    (c.keep.ensures.leads (λ u k. after (meaning c.args.machine.now.room) c.args.machine.now.context (Keep c.in-Keep.rest c.in-Keep.kept) (value_of c.args.value) u k) (seen c.args.world.now) (λ t. refl))

pub returns-in-Clause-clause-leads : goal.returns-in-Clause-clause-leads
returns-in-Clause-clause-leads c =
    subst (λ f. Leads (given_to c.args.machine.now f (value_of c.args.value)) (seen c.args.world.now) c.clause_tested.result c.clause_tested.new.machine) (sym c.in-Clause.is)
    (c.clause_tested.ensures.leads (λ u k. after (meaning c.args.machine.now.room) c.args.machine.now.context (Clause c.in-Clause.forms c.in-Clause.others) (value_of c.args.value) u k) (seen c.args.world.now) (λ t. refl))

pub returns-in-Collect-clause-leads : goal.returns-in-Collect-clause-leads
returns-in-Collect-clause-leads c =
    subst (λ f. Leads (given_to c.args.machine.now f (value_of c.args.value)) (seen c.args.world.now) c.next_value.result c.args.machine.now) (sym c.in-Collect.is)
    (c.next_value.ensures.leads (λ u k. after (meaning c.args.machine.now.room) c.args.machine.now.context (Collect c.in-Collect.action c.in-Collect.rest c.in-Collect.values) (value_of c.args.value) u k) (seen c.args.world.now) (λ t. refl))

pub returns-in-Scope-clause-leads : goal.returns-in-Scope-clause-leads
returns-in-Scope-clause-leads c =
    subst (λ f. Leads (given_to c.args.machine.now f (value_of c.args.value)) (seen c.args.world.now) c.continue_within.result c.continue_within.new.machine) (sym c.in-Scope.is)
    (c.continue_within.ensures.leads (λ u k. after (meaning c.args.machine.now.room) c.args.machine.now.context (Scope c.in-Scope.outer c.in-Scope.rest) (value_of c.args.value) u k) (seen c.args.world.now) (λ t. refl))

pub returns-in-InOrder-clause-leads : goal.returns-in-InOrder-clause-leads
returns-in-InOrder-clause-leads c =
    subst (λ f. Leads (given_to c.args.machine.now f (value_of c.args.value)) (seen c.args.world.now) c.next_variable.result c.next_variable.new.machine) (sym c.in-InOrder.is)
    (c.next_variable.ensures.leads (λ u k. after (meaning c.args.machine.now.room) c.args.machine.now.context (InOrder c.in-InOrder.outer c.in-InOrder.name c.in-InOrder.plan c.in-InOrder.rest) (value_of c.args.value) u k) (λ t. refl))

pub returns-in-Aside-clause-leads : goal.returns-in-Aside-clause-leads
returns-in-Aside-clause-leads c =
    subst (λ f. Leads (given_to c.args.machine.now f (value_of c.args.value)) (seen c.args.world.now) c.next_aside.result c.next_aside.new.machine) (sym c.in-Aside.is)
    (c.next_aside.ensures.leads (λ u k. after (meaning c.args.machine.now.room) c.args.machine.now.context (Aside c.in-Aside.beside) (value_of c.args.value) u k) (λ t. refl))

pub returns-in-Count-clause-leads : goal.returns-in-Count-clause-leads
returns-in-Count-clause-leads c =
    subst (λ f. Leads (given_to c.args.machine.now f (value_of c.args.value)) (seen c.args.world.now) c.repeat.result c.repeat.new.machine) (sym c.in-Count.is)
    (c.repeat.ensures.leads (λ u k. after (meaning c.args.machine.now.room) c.args.machine.now.context (Count c.in-Count.repetition) (value_of c.args.value) u k) (λ t. refl))

pub returns-in-Turn-clause-leads : goal.returns-in-Turn-clause-leads
returns-in-Turn-clause-leads c =
    subst (λ f. Leads (given_to c.args.machine.now f (value_of c.args.value)) (seen c.args.world.now) c.continue_turn.result c.continue_turn.new.machine) (sym c.in-Turn.is)
    (c.continue_turn.ensures.leads (λ u k. after (meaning c.args.machine.now.room) c.args.machine.now.context (Turn c.in-Turn.repetition c.in-Turn.counter c.in-Turn.rest) (value_of c.args.value) u k) (seen c.args.world.now) (λ t. refl))

pub returns-in-Setq-clause-leads : goal.returns-in-Setq-clause-leads
returns-in-Setq-clause-leads c =
    subst (λ f. Leads (given_to c.args.machine.now f (value_of c.args.value)) (seen c.args.world.now) c.set_next.result c.set_next.new.machine) (sym c.in-Setq.is)
    (c.set_next.ensures.leads (λ u k. after (meaning c.args.machine.now.room) c.args.machine.now.context (Setq c.in-Setq.form c.in-Setq.place c.in-Setq.rest) (value_of c.args.value) u k) (seen c.args.world.now) (λ t. refl))

pub returns-in-Setf-clause-leads : goal.returns-in-Setf-clause-leads
returns-in-Setf-clause-leads c =
    subst (λ f. Leads (given_to c.args.machine.now f (value_of c.args.value)) (seen c.args.world.now) c.set_next_place.result c.set_next_place.new.machine) (sym c.in-Setf.is)
    (c.set_next_place.ensures.leads (λ u k. after (meaning c.args.machine.now.room) c.args.machine.now.context (Setf c.in-Setf.rest) (value_of c.args.value) u k) (seen c.args.world.now) (λ t. refl))

pub returns-in-Changed-clause-leads : goal.returns-in-Changed-clause-leads
returns-in-Changed-clause-leads c =
    subst (λ f. Leads (given_to c.args.machine.now f (value_of c.args.value)) (seen c.args.world.now) c.change_from.result c.change_from.new.machine) (sym c.in-Changed.is)
    (c.change_from.ensures.leads (seen c.args.world.now))

pub returns-in-Default-clause-leads : goal.returns-in-Default-clause-leads
returns-in-Default-clause-leads c =
    subst (λ f. Leads (given_to c.args.machine.now f (value_of c.args.value)) (seen c.args.world.now) c.next_default.result c.next_default.new.machine) (sym c.in-Default.is)
    (c.next_default.ensures.leads (seen c.args.world.now))

pub returns-in-Slots-clause-leads : goal.returns-in-Slots-clause-leads
returns-in-Slots-clause-leads c =
    subst (λ f. Leads (given_to c.args.machine.now f (value_of c.args.value)) (seen c.args.world.now) c.bind_slots.result c.bind_slots.new.machine) (sym c.in-Slots.is)
    (c.bind_slots.ensures.leads (λ u k. after (meaning c.args.machine.now.room) c.args.machine.now.context (Slots c.in-Slots.form c.in-Slots.body) (value_of c.args.value) u k) (seen c.args.world.now) (λ t. refl))
