use Rattle.std.proofs.Common.{◌-◌, ap, arith, ◌∙◌}
use Rattle.clos_machine.specs.clos_world.clos_store.Store.{allocated, next_instance, with_instance}
use Rattle.clos_machine.specs.clos_world.World.{seen}
use Rattle.clos_machine.proofs.clos_meaning.clos_world.Kept.{same_classes, same_either_way}
use Rattle.clos_objects.proofs.Making.{allocate_full, allocate_goes, allocate_no_step}
use Rattle.clos_objects.proofs.creation.allocate.Goals as goal

pub returns-in_default-clause-turns : goal.returns-in_default-clause-turns
returns-in_default-clause-turns c =
    allocate_full c.args.machine.now c.args.class.0 c.args.effective c.args.initargs c.args.machine.now c.plain.result (seen c.args.world.now) c.args.steps.now (c.in_default.ensures ∙ ap next_instance c.store.ensures) c.plain.ensures

pub returns-then-steps-eq0-clause-turns : goal.returns-then-steps-eq0-clause-turns
returns-then-steps-eq0-clause-turns c =
    allocate_no_step c.args.machine.now c.args.class.0 c.args.effective c.args.initargs c.args.machine.now c.in-Some.id c.plain-then-steps-eq0.result (seen c.args.world.now) c.args.steps.now
    (c.in-Some.ensures ∙ ap next_instance c.store.ensures) c.if-steps-eq0.true c.plain-then-steps-eq0.ensures

pub returns-clause-turns : goal.returns-clause-turns
returns-clause-turns c =
    allocate_goes c.args.machine.now c.args.class c.args.effective c.args.initargs c.in-Some.id (seen c.args.world.now) (record (seen c.args.world.now) { classes = c.allocate.new.self.classes; store = c.allocate.new.self.contents })
    c.args.steps.now (c.args.steps.now - 1) (c.in-Some.ensures ∙ ap next_instance c.store.ensures) (omega (arith, c.if-steps-eq0.false))
    (ap (λ o. record (seen c.args.world.now) { classes = o.classes; store = o.contents })
    (c.in-Ok.ensures.ok.1 ∙ ap (λ l. record c.args.world.now.objects { contents = with_instance (allocated c.args.class.0 l) c.args.world.now.objects.contents }) c.layout.ensures))

pub invariant_of-world : goal.invariant_of-world
invariant_of-world c = record {
  kept = same_classes c.args.world.now.generics.table c.args.world.now.combinations c.args.world.now.cache c.args.world.now.objects.classes
      c.allocate.new.self.classes
      (same_either_way c.allocate.new.self.classes c.args.world.now.objects.classes c.allocate.result c.allocate.ensures.ok c.allocate.ensures.err
      (λ p. ap (λ o. o.classes) p.1) (ap (λ o. o.classes)))
      c.args.world.now.kept;
}
