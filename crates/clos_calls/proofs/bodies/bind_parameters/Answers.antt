use Rattle.std.proofs.Common.{[], ◌∷◌, Ok, ap, subst, ◌∙◌}
use Rattle.clos_machine.specs.clos_world.World.{seen, bound_as}
use Rattle.clos_machine.specs.Machine.{Leads, given_to, resume, with_init}
use Rattle.clos_machine.specs.clos_meaning.Meaning.{closed, meaning}
use Rattle.clos_machine.specs.clos_meaning.Parameters.{init}
use Rattle.clos_machine.specs.declared.machine.Doing.TheVariants.{Start}
use Rattle.clos_machine.specs.declared.machine.Frame.TheVariants.{Body}
use Rattle.clos_calls.proofs.Settled.{settled_stops, settled_goes, init_begins}
use Rattle.clos_calls.proofs.bodies.bind_parameters.Goals as goal

pub returns-in-Err-clause-leads : goal.returns-in-Err-clause-leads
returns-in-Err-clause-leads c =
    settled_stops c.args.machine.now c.args.saved c.args.outer (meaning c.args.machine.now.room) c.args.machine.now.context c.args.body.now c.args.plan (seen c.args.world.now)
    c.in-Err.stop c.settle.new.locals c.settle.new.plan _ c.in-Err.ensures

pub returns-in-Ok-None-clause-leads : goal.returns-in-Ok-None-clause-leads
returns-in-Ok-None-clause-leads c =
    settled_goes c.args.machine.now c.args.saved c.args.outer (meaning c.args.machine.now.room) c.args.machine.now.context c.args.body.now c.args.plan (seen c.args.world.now)
    c.settle.new.locals [] c.next_of_body.result c.next_of_body.new.machine
    (c.in-Ok-None.ensures ∙ ap (λ n. Ok (c.settle.new.locals, with_init n c.settle.new.plan)) c.in-Ok-None.field-0-is)
    (subst (λ v. Leads (given_to (record c.args.machine.now { locals = c.settle.new.locals }) (Body c.args.body.now c.args.saved c.args.outer) v) (seen c.args.world.now)
    c.next_of_body.result c.next_of_body.new.machine) c.nil.ensures c.next_of_body.ensures.leads)

pub returns-in_ok-push-in-Ok-Some-clause-leads : goal.returns-in_ok-push-in-Ok-Some-clause-leads
returns-in_ok-push-in-Ok-Some-clause-leads c =
    settled_goes c.args.machine.now c.args.saved c.args.outer (meaning c.args.machine.now.room) c.args.machine.now.context c.args.body.now c.args.plan (seen c.args.world.now)
    c.settle.new.locals ((c.in-Ok-Some.name, init c.in-Ok-Some.form) ∷ c.settle.new.plan) (Ok (Start c.in-Ok-Some.form))
    (record c.args.machine.now { levels = c.push.new.self; locals = c.settle.new.locals })
    (c.in-Ok-Some.ensures ∙ ap (λ n. Ok (c.settle.new.locals, with_init n c.settle.new.plan)) c.in-Ok-Some.field-0-is)
    (λ t. ap (λ l. closed (resume l c.args.machine.now.context (meaning c.args.machine.now.room c.args.machine.now.context c.in-Ok-Some.form (bound_as c.settle.new.locals (seen c.args.world.now)) t)))
    c.in_ok-push-in-Ok-Some.ensures.ok
    ∙ init_begins (record c.args.machine.now { locals = c.settle.new.locals }) c.in-Ok.defaulted
    (record { name = c.in-Ok-Some.name; plan = c.settle.new.plan; body = c.args.body.now; saved = c.args.saved; outer = c.args.outer }) c.in-Ok-Some.form (seen c.args.world.now) t
    (c.in-Ok.ensures.ok ∙ ap (λ b. record { name = c.in-Ok-Some.name; plan = c.settle.new.plan; body = b; saved = c.args.saved; outer = c.args.outer }) c.in_ok-body-in-Ok-Some.ensures))
