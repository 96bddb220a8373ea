use Rattle.std.proofs.Common.{ap, subst, sym, ◌∙◌}
use Rattle.clos_machine.specs.clos_world.World.{seen}
use Rattle.clos_machine.specs.clos_meaning.Bodies.{body_run}
use Rattle.clos_machine.specs.Machine.{Leads, inside}
use Rattle.clos_machine.specs.clos_meaning.Meaning.{meaning}
use Rattle.clos_machine.specs.clos_meaning.Parameters.{fits, sources}
use Rattle.clos_machine.proofs.Runs.{applied_runs}
use Rattle.clos_calls.proofs.functions.call_function.Goals as goal

pub returns-clause-leads : goal.returns-clause-leads
returns-clause-leads c =
    applied_runs c.args.machine.now (meaning c.args.machine.now.room) c.args.values c.in_ok-arguments.arguments c.args.function.now (seen c.args.world.now)
    c.run_body.result c.run_body.new.machine c.in_ok-arguments.ensures
    (sym c.if-not-fits.false ∙ c.fits.ensures ∙ ap (λ vs. fits c.args.function.now.lambda_list vs) c.as_slice.ensures)
    (subst (λ x. Leads (inside c.args.machine.now (body_run (meaning c.args.machine.now.room) x (sources c.args.function.now.lambda_list x.arguments) c.args.function.now.body))
    (seen c.args.world.now) c.run_body.result c.run_body.new.machine) c.in_ok-context.ensures c.run_body.ensures.leads)
