use Rattle.std.proofs.Common.{ap}
use Rattle.clos_world.proofs.Kept.{same_either_way, same_functions}
use Rattle.clos_definition.proofs.WellMade.{ready}
use Rattle.clos_definition.proofs.effect.reserve.Goals as goal

pub returns-in-Ok-clause-reserved : goal.returns-in-Ok-clause-reserved
returns-in-Ok-clause-reserved c =
    ready c.args.effect.now c.args.world.now.generics c.reserve.new.self c.are_sound.ensures c.requires c.in-Ok.ensures.ok.0
    c.in-Ok.ensures.ok.1

pub invariant_of-world : goal.invariant_of-world
invariant_of-world c = record {
  kept = same_functions c.args.world.now.objects.classes c.args.world.now.combinations c.args.world.now.cache c.args.world.now.generics.table
      c.reserve.new.self.table
      (same_either_way c.reserve.new.self.table c.args.world.now.generics.table c.reserve.result c.reserve.ensures.ok c.reserve.ensures.err
      (λ p. ap (λ h. h.table) p.1) (ap (λ h. h.table)))
      c.args.world.now.kept;
}
