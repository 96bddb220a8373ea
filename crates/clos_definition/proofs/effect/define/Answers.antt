use Rattle.std.proofs.Common.{ap, subst, sym}
use Rattle.clos_cache.specs.Cache.{Drops, of_generic}
use Rattle.clos_generic.specs.Table.{Table}
use Rattle.clos_world.specs.Kept.{FunctionsKeep}
use Rattle.clos_world.proofs.Drops.{definition_stays}
use Rattle.clos_definition.proofs.effect.define.Goals as goal

pub returns-clause-kept : goal.returns-clause-kept
returns-clause-kept c =
    subst (λ (t : Table). FunctionsKeep c.args.generics.now.table c.args.cache.now t c.drop_generic.new.self)
    (sym (ap (λ h. h.table) c.define_reserved-id.ensures.seen))
    (definition_stays c.args.generics.now.table c.args.cache.now c.drop_generic.new.self c.args.definition.name c.args.definition.options
    (subst (λ g. Drops (of_generic g) c.args.cache.now c.drop_generic.new.self) c.define_reserved-id.ensures.id c.drop_generic.ensures))
