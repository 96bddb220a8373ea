use Rattle.std.proofs.Common.{ap, subst, sym}
use Rattle.clos_generic.specs.Table.{Table}
use Rattle.clos_world.specs.Kept.{FunctionsKeep}
use Rattle.clos_world.proofs.Drops.{removal_stays}
use Rattle.clos_definition.proofs.effect.take_out.Goals as goal

pub returns-clause-kept : goal.returns-clause-kept
returns-clause-kept c =
    subst (λ (t : Table). FunctionsKeep c.args.generics.now.table c.args.cache.now t c.drop_generic.new.self)
    (sym (ap (λ h. h.table) c.take_out.ensures))
    (removal_stays c.args.generics.now.table c.args.cache.now c.drop_generic.new.self c.args.function.0 c.args.method.0 c.drop_generic.ensures)
