use Rattle.std.proofs.Common.{ap}
use Rattle.clos_world.proofs.Kept.{same_classes}
use Rattle.clos_definition.proofs.class.reserve_class.Goals as goal

pub invariant_of-world : goal.invariant_of-world
invariant_of-world c = record {
  kept = same_classes c.args.world.now.generics.table c.args.world.now.combinations c.args.world.now.cache c.args.world.now.objects.classes
      c.reserve_class.new.self.classes (ap (λ o. o.classes) c.reserve_class.ensures.same) c.args.world.now.kept;
}
