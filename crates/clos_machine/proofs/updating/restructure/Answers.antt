use Rattle.std.proofs.Common.{◌-◌, ap, arith}
use Rattle.clos_meaning.specs.clos_world.World.{seen}
use Rattle.clos_machine.specs.declared.machine.Machine.{Machine}
use Rattle.clos_meaning.proofs.clos_world.Kept.{same_classes, same_either_way}
use Rattle.clos_machine.proofs.Updates.{update_goes, update_no_step}
use Rattle.clos_machine.proofs.updating.restructure.Goals as goal

pub returns-then-steps-eq0-clause-turns : goal.returns-then-steps-eq0-clause-turns
returns-then-steps-eq0-clause-turns c =
    update_no_step c.args.machine.now c.args.machine.now c.args.id.0 c.args.layout.now c.args.visit (seen c.args.world.now) c.args.steps.now c.args.arguments c.plain.result
    c.if-steps-eq0.true c.plain.ensures

pub returns-clause-turns : goal.returns-clause-turns
returns-clause-turns c =
    let m : Machine = c.args.machine.now in
    update_goes m (record m { levels = c.push.new.self }) c.args.id c.args.layout.now c.args.visit c.in-Ok.visit c.args.arguments (seen c.args.world.now)
    (record (seen c.args.world.now) { classes = c.restructure.new.self.classes; store = c.restructure.new.self.contents }) c.args.steps.now (c.args.steps.now - 1)
    c.in-Ok.ensures.ok (ap (λ ls. record m { levels = ls }) c.in_ok-push.ensures.ok) (omega (arith, c.if-steps-eq0.false))
    (ap (λ o. record (seen c.args.world.now) { classes = o.classes; store = o.contents }) c.in-Ok-restructure.ensures.ok)

pub invariant_of-world : goal.invariant_of-world
invariant_of-world c = record {
  kept = same_classes c.args.world.now.generics.table c.args.world.now.combinations c.args.world.now.cache c.args.world.now.objects.classes
      c.restructure.new.self.classes
      (same_either_way c.restructure.new.self.classes c.args.world.now.objects.classes c.restructure.result c.restructure.ensures.ok
      c.restructure.ensures.err (ap (λ o. o.classes)) (ap (λ o. o.classes)))
      c.args.world.now.kept;
}
