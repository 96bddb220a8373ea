use Rattle.std.proofs.Common.{Err, map, sym, ◌∙◌}
use Rattle.lisp_data.specs.ValueView.{value_of}
use Rattle.clos_machine.specs.clos_world.World.{seen}
use Rattle.clos_machine.specs.clos_world.declared.condition.Stop.TheVariants.{Refused}
use Rattle.clos_machine.specs.Machine.{inside}
use Rattle.clos_machine.specs.clos_meaning.Meaning.{meaning}
use Rattle.clos_machine.specs.clos_meaning.SystemMethods.{system_method_run}
use Rattle.clos_machine.proofs.Runs.{turns_of_leads}
use Rattle.clos_method.specs.declared.system.SystemFunction.TheVariants.{SharedInitialize}
use Rattle.clos_objects.proofs.Methods.{odd_initargs, no_slot_names, one_argument, slot_names, slots_of_none}
use Rattle.clos_objects.proofs.system_methods.initialize_slots.Goals as goal

pub returns-in-None-clause-turns : goal.returns-in-None-clause-turns
returns-in-None-clause-turns c =
    let m = c.args.machine.now in
    turns_of_leads (inside m (system_method_run (meaning m.room) SharedInitialize c.args.arguments.now)) (seen c.args.world.now) c.args.steps.now (Err (Refused c.plain.result)) m
    (one_argument m m (seen c.args.world.now) (meaning m.room) (value_of c.args.object.now) c.args.arguments.now
    (map value_of c.args.rest.now) c.plain.result c.requires c.in-None.ensures c.plain.ensures)

pub returns-then-not-are_even-clause-turns : goal.returns-then-not-are_even-clause-turns
returns-then-not-are_even-clause-turns c =
    let m = c.args.machine.now in
    turns_of_leads (inside m (system_method_run (meaning m.room) SharedInitialize c.args.arguments.now)) (seen c.args.world.now) c.args.steps.now
    (Err (Refused c.plain-then-not-are_even.result)) m
    (odd_initargs m m (seen c.args.world.now) (meaning m.room) (value_of c.args.object.now) c.args.arguments.now
    (map value_of c.args.rest.now) (value_of c.in-Some.names.now) _ c.requires c.in-Some.ensures c.plain-then-not-are_even.result
    (sym c.are_even.ensures ∙ c.if-not-are_even.true) c.plain-then-not-are_even.ensures)

pub returns-in-Err-clause-turns : goal.returns-in-Err-clause-turns
returns-in-Err-clause-turns c =
    let m = c.args.machine.now in
    turns_of_leads (inside m (system_method_run (meaning m.room) SharedInitialize c.args.arguments.now)) (seen c.args.world.now) c.args.steps.now (Err c.in-Err.stop) m
    (slots_of_none m m (seen c.args.world.now) (meaning m.room) (value_of c.args.object.now) c.args.arguments.now
    (map value_of c.args.rest.now) (value_of c.in-Some.names.now) _ c.requires c.in-Some.ensures (sym c.are_even.ensures ∙ c.if-not-are_even.false) c.in-Err.stop c.in-Err.ensures)

pub returns-then-not-are_slot_names-clause-turns : goal.returns-then-not-are_slot_names-clause-turns
returns-then-not-are_slot_names-clause-turns c =
    let m = c.args.machine.now in
    turns_of_leads (inside m (system_method_run (meaning m.room) SharedInitialize c.args.arguments.now)) (seen c.args.world.now) c.args.steps.now
    (Err (Refused c.in_ok-wrong_type-in-Ok.field-0)) m
    (no_slot_names m m (seen c.args.world.now) (meaning m.room) (value_of c.args.object.now) c.args.arguments.now
    (map value_of c.args.rest.now) (value_of c.in-Some.names.now) _ c.requires c.in-Some.ensures (sym c.are_even.ensures ∙ c.if-not-are_even.false) c.in-Ok.id.0 c.in_ok-wrong_type-in-Ok.field-0 c.in-Ok.ensures
    (sym c.are_slot_names.ensures ∙ c.if-not-are_slot_names.true) c.in_ok-wrong_type-in-Ok.ensures)

pub returns-else-not-are_slot_names-clause-turns : goal.returns-else-not-are_slot_names-clause-turns
returns-else-not-are_slot_names-clause-turns c =
    slot_names c.args.machine.now c.update_and_fill.new.machine (seen c.args.world.now) (meaning c.args.machine.now.room) (value_of c.args.object.now) c.args.arguments.now
    (map value_of c.args.rest.now) (value_of c.in-Some.names.now) _ c.requires c.in-Some.ensures (sym c.are_even.ensures ∙ c.if-not-are_even.false) c.in-Ok.id.0 c.update_and_fill.result
    c.args.steps.now (seen c.update_and_fill.new.world) c.update_and_fill.new.steps c.in-Ok.ensures
    (sym c.are_slot_names.ensures ∙ c.if-not-are_slot_names.false) c.update_and_fill.ensures.turns
