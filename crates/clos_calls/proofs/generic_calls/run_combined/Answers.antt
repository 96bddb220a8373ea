use Rattle.std.proofs.Common.{ap, refl, sym, ◌∙◌, [], ◌∷◌, Some, None}
use Rattle.lisp_data.specs.Value.{method}
use Rattle.clos_comb.specs.declared.outcome.Outcome.TheVariants as outcome
use Rattle.clos_machine.specs.clos_world.World.{seen}
use Rattle.clos_machine.specs.clos_meaning.Contexts.{in_call}
use Rattle.clos_machine.specs.clos_meaning.Meaning.{meaning}
use Rattle.clos_machine.specs.clos_world.declared.condition.ConditionKind.TheVariants.{AmbiguousMethods, BadExpansion, ExpansionLimit, InvalidMethod, RequiredGroupEmpty}
use Rattle.clos_machine.specs.clos_world.declared.condition.Stop.TheVariants.{Refused}
use Rattle.clos_calls.specs.GenericCalls.{about_function}
use Rattle.clos_calls.proofs.Dispatching.{refusal_told}
use Rattle.clos_calls.proofs.generic_calls.run_combined.Goals as goal

pub returns-in_ok-condition-in-InvalidMethod-clause-leads : goal.returns-in_ok-condition-in-InvalidMethod-clause-leads
returns-in_ok-condition-in-InvalidMethod-clause-leads c = λ f e.
    refusal_told c.args.machine.now c.args.machine.now (meaning c.args.machine.now.room) (seen c.args.world.now)
    (in_call (record { generic = c.args.id.0; methods = c.args.found.value.methods }) c.args.arguments) f c.args.found.value.outcome (outcome.InvalidMethod c.in-InvalidMethod.method)
    (record { kind = InvalidMethod; items = method c.in-InvalidMethod.method.0 ∷ [] }) (Refused c.in_ok-condition-in-InvalidMethod.condition) (ap (λ e. e.outcome) (sym c.deref.ensures) ∙ c.in-InvalidMethod.is) (λ t. refl) c.in_ok-condition-in-InvalidMethod.ensures

pub returns-in_ok-condition-in-AmbiguousMethods-clause-leads : goal.returns-in_ok-condition-in-AmbiguousMethods-clause-leads
returns-in_ok-condition-in-AmbiguousMethods-clause-leads c = λ f e.
    refusal_told c.args.machine.now c.args.machine.now (meaning c.args.machine.now.room) (seen c.args.world.now)
    (in_call (record { generic = c.args.id.0; methods = c.args.found.value.methods }) c.args.arguments) f c.args.found.value.outcome (outcome.AmbiguousMethods c.in-AmbiguousMethods.earlier c.in-AmbiguousMethods.later)
    (record { kind = AmbiguousMethods; items = method c.in-AmbiguousMethods.earlier.0 ∷ method c.in-AmbiguousMethods.later.0 ∷ [] }) (Refused c.in_ok-condition-in-AmbiguousMethods.condition) (ap (λ e. e.outcome) (sym c.deref.ensures) ∙ c.in-AmbiguousMethods.is) (λ t. refl) c.in_ok-condition-in-AmbiguousMethods.ensures

pub returns-in-BadExpansion-clause-leads : goal.returns-in-BadExpansion-clause-leads
returns-in-BadExpansion-clause-leads c = λ f e.
    refusal_told c.args.machine.now c.args.machine.now (meaning c.args.machine.now.room) (seen c.args.world.now)
    (in_call (record { generic = c.args.id.0; methods = c.args.found.value.methods }) c.args.arguments) f c.args.found.value.outcome outcome.BadExpansion
    (about_function BadExpansion f None) c.refuse_function-in-BadExpansion.result (ap (λ e. e.outcome) (sym c.deref.ensures) ∙ c.in-BadExpansion.is) (λ t. refl) (c.refuse_function-in-BadExpansion.ensures f e)

pub returns-in-ExpansionLimit-clause-leads : goal.returns-in-ExpansionLimit-clause-leads
returns-in-ExpansionLimit-clause-leads c = λ f e.
    refusal_told c.args.machine.now c.args.machine.now (meaning c.args.machine.now.room) (seen c.args.world.now)
    (in_call (record { generic = c.args.id.0; methods = c.args.found.value.methods }) c.args.arguments) f c.args.found.value.outcome outcome.ExpansionLimit
    (about_function ExpansionLimit f None) c.refuse_function-in-ExpansionLimit.result (ap (λ e. e.outcome) (sym c.deref.ensures) ∙ c.in-ExpansionLimit.is) (λ t. refl) (c.refuse_function-in-ExpansionLimit.ensures f e)

pub returns-in_ok-group-in-RequiredGroupEmpty-clause-leads : goal.returns-in_ok-group-in-RequiredGroupEmpty-clause-leads
returns-in_ok-group-in-RequiredGroupEmpty-clause-leads c = λ f e.
    refusal_told c.args.machine.now c.args.machine.now (meaning c.args.machine.now.room) (seen c.args.world.now)
    (in_call (record { generic = c.args.id.0; methods = c.args.found.value.methods }) c.args.arguments) f c.args.found.value.outcome (outcome.RequiredGroupEmpty c.in_ok-group-in-RequiredGroupEmpty.group)
    (about_function RequiredGroupEmpty f (Some c.in_ok-group-in-RequiredGroupEmpty.group)) c.refuse_function.result (ap (λ e. e.outcome) (sym c.deref.ensures) ∙ c.in-RequiredGroupEmpty.is ∙ ap outcome.RequiredGroupEmpty (sym c.in_ok-group-in-RequiredGroupEmpty.ensures)) (λ t. refl) (c.refuse_function.ensures f e)
