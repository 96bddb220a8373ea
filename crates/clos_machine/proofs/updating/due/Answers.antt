use Rattle.std.proofs.Common.{ap}
use Rattle.clos_meaning.proofs.clos_world.Kept.{same_classes}
use Rattle.clos_machine.proofs.updating.due.Goals as goal

pub invariant_of-world : goal.invariant_of-world
invariant_of-world c = record {
  kept = same_classes c.args.world.now.generics.table c.args.world.now.combinations c.args.world.now.cache c.args.world.now.objects.classes
      c.due.new.self.classes (ap (λ o. o.classes) c.due.ensures.same) c.args.world.now.kept;
}
