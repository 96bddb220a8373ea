use Rattle.std.proofs.Common.{ap, sym, ◌∙◌, ◌∷◌, drop}
use Rattle.clos_forms.specs.Operator.{the_method}
use Rattle.clos_machine.specs.clos_world.World.{seen}
use Rattle.clos_next_methods.proofs.Nexting.{made_runs, method_runs, none_runs}
use Rattle.clos_next_methods.proofs.next_methods.run_next.Goals as goal

pub returns-in-None-clause-leads : goal.returns-in-None-clause-leads
returns-in-None-clause-leads c =
    none_runs c.args.machine.now c.args.machine.now c.args.arguments (seen c.args.world.now) c.in-Some.running.now (sym c.in-Some.ensures) c.call_none.result
    c.in-None.ensures c.call_none.ensures.leads

pub returns-in_ok-forms-in-Some-Method-clause-leads : goal.returns-in_ok-forms-in-Some-Method-clause-leads
returns-in_ok-forms-in-Some-Method-clause-leads c =
    method_runs c.args.machine.now c.run_method.new.machine c.args.arguments (seen c.args.world.now) c.in-Some.running.now (sym c.in-Some.ensures) c.run_method.result
    c.in-Some-Method.id.0 c.in_ok-next-in-Some-Method.next c.in_ok-forms-in-Some-Method.forms
    (ap (λ l. the_method c.in-Some-Method.id.0 ∷ l) c.in_ok-next-in-Some-Method.ensures ∙ (rw c.in-Some-Method.field-0-is at c.in-Some-Method.ensures)) c.in_ok-forms-in-Some-Method.ensures
    c.run_method.ensures.leads

pub returns-in_ok-forms-in-Some-Made-clause-leads : goal.returns-in_ok-forms-in-Some-Made-clause-leads
returns-in_ok-forms-in-Some-Made-clause-leads c =
    made_runs c.args.machine.now c.run_made_with.new.machine c.args.arguments (seen c.args.world.now) c.in-Some.running.now (sym c.in-Some.ensures) c.run_made_with.result
    (drop 1 c.in-Some.running.now.next) c.in_ok-forms-in-Some-Made.forms (rw c.in-Some-Made.field-0-is at c.in-Some-Made.ensures) c.in_ok-forms-in-Some-Made.ensures
    c.run_made_with.ensures.leads
