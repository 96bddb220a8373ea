use Rattle.std.proofs.Common.{ap, refl, slice_get, ◌∙◌}
use Rattle.clos_machine.specs.clos_world.FunctionName.{setter_value}
use Rattle.clos_machine.specs.clos_world.Functions.{function_in}
use Rattle.clos_machine.specs.clos_world.Values.{last_first}
use Rattle.clos_machine.specs.clos_world.Uses.{uses_of}
use Rattle.clos_machine.specs.clos_world.World.{seen}
use Rattle.clos_machine.specs.clos_meaning.Calls.{called_defined, called_setter, called_setter_by}
use Rattle.clos_machine.specs.clos_meaning.GenericCalls.{called_generic}
use Rattle.clos_machine.specs.Machine.{inside}
use Rattle.clos_machine.specs.clos_meaning.Meaning.{meaning}
use Rattle.clos_machine.proofs.Turns.{leads_same}
use Rattle.clos_machine.proofs.Uses.{leads_by_same, leads_none}
use Rattle.clos_calls.proofs.functions.call_setter.Goals as goal

pub returns-in-None-clause-leads : goal.returns-in-None-clause-leads
returns-in-None-clause-leads c =
    leads_none (inside c.args.machine.now (called_setter (meaning c.args.machine.now.room) c.args.name.now c.args.values)) (seen c.args.world.now) (uses_of c.args.world.now) (uses_of c.args.world.now)
    c.call_set_function.result c.call_set_function.new.machine refl
    (leads_same (inside c.args.machine.now (λ w. called_defined (meaning c.args.machine.now.room) c.put_last_first.new.self (setter_value c.args.name.now) (function_in w.setters c.args.name.now) w))
    (inside c.args.machine.now (called_setter (meaning c.args.machine.now.room) c.args.name.now c.args.values))
    (seen c.args.world.now) c.call_set_function.result c.call_set_function.new.machine
    (λ t. ap (λ vs. inside c.args.machine.now (λ w. called_defined (meaning c.args.machine.now.room) vs (setter_value c.args.name.now) (function_in w.setters c.args.name.now) w) (seen c.args.world.now) t)
    c.in_ok-put_last_first.ensures
    ∙ ap (λ o. inside c.args.machine.now (called_setter_by (meaning c.args.machine.now.room) c.args.name.now (last_first c.args.values) o) (seen c.args.world.now) t)
    c.in-None.ensures) c.call_set_function.ensures.leads)

pub returns-in-Some-clause-leads : goal.returns-in-Some-clause-leads
returns-in-Some-clause-leads c =
    leads_by_same (inside c.args.machine.now (λ w. called_generic (meaning c.args.machine.now.room) c.put_last_first.new.self c.in-Some.id.0 (slice_get w.generics.functions c.in-Some.id.0) w))
    (seen c.args.world.now) (uses_of c.args.world.now) (uses_of c.call_generic.new.world) c.call_generic.result c.call_generic.new.machine
    (inside c.args.machine.now (called_setter (meaning c.args.machine.now.room) c.args.name.now c.args.values))
    (λ t. ap (λ vs. inside c.args.machine.now (λ w. called_generic (meaning c.args.machine.now.room) vs c.in-Some.id.0 (slice_get w.generics.functions c.in-Some.id.0) w) (seen c.args.world.now) t)
    c.in_ok-put_last_first.ensures
    ∙ ap (λ o. inside c.args.machine.now (called_setter_by (meaning c.args.machine.now.room) c.args.name.now (last_first c.args.values) o) (seen c.args.world.now) t)
    c.in-Some.ensures) c.call_generic.ensures.leads
