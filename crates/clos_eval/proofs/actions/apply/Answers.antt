use Rattle.std.proofs.Common.{sym, subst, ◌∙◌}
use Rattle.lisp_prims.specs.Primitive.{answer}
use Rattle.clos_forms.specs.declared.operator.FunctionName.TheVariants.{Symbol}
use Rattle.clos_machine.specs.clos_world.clos_generic.Table.{named}
use Rattle.clos_machine.specs.clos_world.Uses.{uses_of}
use Rattle.clos_machine.specs.clos_world.World.{class_of, seen}
use Rattle.clos_machine.specs.clos_meaning.Calls.{called_function}
use Rattle.clos_machine.specs.clos_meaning.ClassFunctions.{class_answer, comes_to}
use Rattle.clos_machine.specs.clos_meaning.Fault.{answered}
use Rattle.clos_machine.specs.clos_meaning.FindMethod.{method_answer}
use Rattle.clos_machine.specs.clos_meaning.Functions.{applied}
use Rattle.clos_machine.specs.clos_meaning.Meaning.{meaning}
use Rattle.clos_machine.specs.Machine.{inside}
use Rattle.clos_machine.specs.Uses.{LeadsBy, TurnsBy}
use Rattle.clos_machine.proofs.Uses.{turns_by, turns_none, turns_none_of}
use Rattle.clos_eval.proofs.actions.apply.Goals as goal

pub returns-in-Primitive-clause-turns : goal.returns-in-Primitive-clause-turns
returns-in-Primitive-clause-turns c =
    subst (λ k. TurnsBy (inside c.args.machine.now (applied (meaning c.args.machine.now.room) c.args.machine.now.context k c.args.name.now c.args.values))
    (seen c.args.world.now) c.args.steps.now (uses_of c.args.world.now) c.compute.result c.compute.new.machine (seen c.args.world.now) c.args.steps.now (uses_of c.args.world.now))
    (sym c.in-Primitive.is ∙ c.callee.ensures)
    (turns_none_of (inside c.args.machine.now (answered (answer c.in-Primitive.primitive c.args.values))) (seen c.args.world.now) c.args.steps.now (uses_of c.args.world.now)
    c.compute.result c.compute.new.machine c.compute.ensures.leads)

pub returns-in-ClassFunction-clause-turns : goal.returns-in-ClassFunction-clause-turns
returns-in-ClassFunction-clause-turns c =
    subst (λ k. TurnsBy (inside c.args.machine.now (applied (meaning c.args.machine.now.room) c.args.machine.now.context k c.args.name.now c.args.values))
    (seen c.args.world.now) c.args.steps.now (uses_of c.args.world.now) c.call_class_function.result c.call_class_function.new.machine (seen c.args.world.now) c.args.steps.now (uses_of c.args.world.now))
    (sym c.in-ClassFunction.is ∙ c.callee.ensures)
    (turns_none_of (inside c.args.machine.now (λ w. comes_to (class_answer c.in-ClassFunction.function w.classes (class_of w) c.args.values) w)) (seen c.args.world.now)
    c.args.steps.now (uses_of c.args.world.now) c.call_class_function.result c.call_class_function.new.machine c.call_class_function.ensures.leads)

pub returns-in-FindMethod-clause-turns : goal.returns-in-FindMethod-clause-turns
returns-in-FindMethod-clause-turns c =
    subst (λ k. TurnsBy (inside c.args.machine.now (applied (meaning c.args.machine.now.room) c.args.machine.now.context k c.args.name.now c.args.values))
    (seen c.args.world.now) c.args.steps.now (uses_of c.args.world.now) c.call_find_method.result c.call_find_method.new.machine (seen c.args.world.now) c.args.steps.now (uses_of c.args.world.now))
    (sym c.in-FindMethod.is ∙ c.callee.ensures)
    (turns_none_of (inside c.args.machine.now (λ w. comes_to (method_answer w.classes w.generics c.args.values) w)) (seen c.args.world.now)
    c.args.steps.now (uses_of c.args.world.now) c.call_find_method.result c.call_find_method.new.machine c.call_find_method.ensures.leads)

pub returns-in-Defined-clause-turns : goal.returns-in-Defined-clause-turns
returns-in-Defined-clause-turns c =
    subst (λ k. TurnsBy (inside c.args.machine.now (applied (meaning c.args.machine.now.room) c.args.machine.now.context k c.args.name.now c.args.values))
    (seen c.args.world.now) c.args.steps.now (uses_of c.args.world.now) c.call.result c.call.new.machine (seen c.call.new.world) c.args.steps.now (uses_of c.call.new.world))
    (sym c.in-Defined.is ∙ c.callee.ensures)
    (turns_by (inside c.args.machine.now (λ w. called_function (meaning c.args.machine.now.room) c.args.name.now c.args.values (named w.generics (Symbol c.args.name.now)) w))
    (seen c.args.world.now) (seen c.call.new.world) c.args.steps.now (uses_of c.args.world.now) (uses_of c.call.new.world) c.call.result c.call.new.machine c.call.ensures.same
    (subst (λ x. LeadsBy (inside c.args.machine.now (λ w. called_function (meaning c.args.machine.now.room) x c.args.values (named w.generics (Symbol x)) w)) (seen c.args.world.now)
    (uses_of c.args.world.now) c.call.result c.call.new.machine (uses_of c.call.new.world)) c.name.ensures c.call.ensures.leads))

pub returns-in-Output-clause-turns : goal.returns-in-Output-clause-turns
returns-in-Output-clause-turns c =
    subst (λ k. TurnsBy (inside c.args.machine.now (applied (meaning c.args.machine.now.room) c.args.machine.now.context k c.args.name.now c.args.values))
    (seen c.args.world.now) c.args.steps.now (uses_of c.args.world.now) c.print.result c.print.new.machine (seen c.print.new.world) c.print.new.steps (uses_of c.print.new.world))
    (sym c.in-Output.is ∙ c.callee.ensures)
    (turns_none _ (seen c.args.world.now) c.args.steps.now (uses_of c.args.world.now) (uses_of c.print.new.world) c.print.result c.print.new.machine
    (seen c.print.new.world) c.print.new.steps c.print.ensures.kept c.print.ensures.turns)

pub returns-in-Terpri-clause-turns : goal.returns-in-Terpri-clause-turns
returns-in-Terpri-clause-turns c =
    subst (λ k. TurnsBy (inside c.args.machine.now (applied (meaning c.args.machine.now.room) c.args.machine.now.context k c.args.name.now c.args.values))
    (seen c.args.world.now) c.args.steps.now (uses_of c.args.world.now) c.end_line.result c.end_line.new.machine (seen c.end_line.new.world) c.end_line.new.steps (uses_of c.end_line.new.world))
    (sym c.in-Terpri.is ∙ c.callee.ensures)
    (turns_none _ (seen c.args.world.now) c.args.steps.now (uses_of c.args.world.now) (uses_of c.end_line.new.world) c.end_line.result c.end_line.new.machine
    (seen c.end_line.new.world) c.end_line.new.steps c.end_line.ensures.kept c.end_line.ensures.turns)

pub returns-in-MakeInstance-clause-turns : goal.returns-in-MakeInstance-clause-turns
returns-in-MakeInstance-clause-turns c =
    subst (λ k. TurnsBy (inside c.args.machine.now (applied (meaning c.args.machine.now.room) c.args.machine.now.context k c.args.name.now c.args.values))
    (seen c.args.world.now) c.args.steps.now (uses_of c.args.world.now) c.make_instance.result c.make_instance.new.machine (seen c.make_instance.new.world) c.make_instance.new.steps (uses_of c.make_instance.new.world))
    (sym c.in-MakeInstance.is ∙ c.callee.ensures)
    (turns_none _ (seen c.args.world.now) c.args.steps.now (uses_of c.args.world.now) (uses_of c.make_instance.new.world) c.make_instance.result c.make_instance.new.machine
    (seen c.make_instance.new.world) c.make_instance.new.steps c.make_instance.ensures.kept c.make_instance.ensures.turns)

pub returns-in-ChangeClass-clause-turns : goal.returns-in-ChangeClass-clause-turns
returns-in-ChangeClass-clause-turns c =
    subst (λ k. TurnsBy (inside c.args.machine.now (applied (meaning c.args.machine.now.room) c.args.machine.now.context k c.args.name.now c.args.values))
    (seen c.args.world.now) c.args.steps.now (uses_of c.args.world.now) c.change_class.result c.change_class.new.machine (seen c.change_class.new.world) c.change_class.new.steps (uses_of c.change_class.new.world))
    (sym c.in-ChangeClass.is ∙ c.callee.ensures)
    (turns_none _ (seen c.args.world.now) c.args.steps.now (uses_of c.args.world.now) (uses_of c.change_class.new.world) c.change_class.result c.change_class.new.machine
    (seen c.change_class.new.world) c.change_class.new.steps c.change_class.ensures.kept c.change_class.ensures.turns)

pub returns-in-SlotFunction-clause-turns : goal.returns-in-SlotFunction-clause-turns
returns-in-SlotFunction-clause-turns c =
    subst (λ k. TurnsBy (inside c.args.machine.now (applied (meaning c.args.machine.now.room) c.args.machine.now.context k c.args.name.now c.args.values))
    (seen c.args.world.now) c.args.steps.now (uses_of c.args.world.now) c.call_slot_function.result c.call_slot_function.new.machine (seen c.call_slot_function.new.world) c.call_slot_function.new.steps (uses_of c.call_slot_function.new.world))
    (sym c.in-SlotFunction.is ∙ c.callee.ensures)
    (turns_none _ (seen c.args.world.now) c.args.steps.now (uses_of c.args.world.now) (uses_of c.call_slot_function.new.world) c.call_slot_function.result c.call_slot_function.new.machine
    (seen c.call_slot_function.new.world) c.call_slot_function.new.steps c.call_slot_function.ensures.kept c.call_slot_function.ensures.turns)
