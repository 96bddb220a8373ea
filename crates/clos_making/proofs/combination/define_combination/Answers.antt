use Rattle.std.proofs.Common.{[], ◌∷◌, refl, subst, sym, ◌∙◌}
use Rattle.std.proofs.Math.Logic.{∥∥₁_map}
use Rattle.clos_machine.specs.clos_world.Kept.{AreNow}
use Rattle.clos_machine.specs.clos_world.clos_cache.Cache.{Drops, of_combination}
use Rattle.clos_machine.specs.clos_world.clos_comb.Table.{name_of}
use Rattle.clos_machine.proofs.clos_meaning.clos_world.Drops.{combination_stays}
use Rattle.clos_effects.proofs.Concerned.{left_in}
use Rattle.clos_making.proofs.combination.define_combination.Goals as goal

pub returns-in_default-clause-answers : goal.returns-in_default-clause-answers
returns-in_default-clause-answers c = (refl, refl)

pub invariant_of-world-in-Ok : goal.invariant_of-world-in-Ok
invariant_of-world-in-Ok c = record {
  kept = subst (λ t. ∥ AreNow c.args.world.now.objects.classes c.args.world.now.generics.table t c.drop_combination.new.self ∥₁)
      (sym c.in-Ok.ensures.ok)
      (∥∥₁_map c.args.world.now.kept
      (combination_stays c.args.world.now.objects.classes c.args.world.now.generics.table c.args.world.now.combinations c.args.definition
      c.args.world.now.cache c.drop_combination.new.self
      (subst (λ n. Drops (of_combination n) c.args.world.now.cache c.drop_combination.new.self)
      (c.in-Ok-Ok.ensures' ∙ c.name_of-name.ensures) c.drop_combination.ensures)));
}

pub returns-in-Ok-clause-uses : goal.returns-in-Ok-clause-uses
returns-in-Ok-clause-uses c =
    left_in c.args.world.now (of_combination (name_of c.args.definition) ∷ []) c.drop_combination.new.self
    (subst (λ n. Drops (of_combination n) c.args.world.now.cache c.drop_combination.new.self) (c.in-Ok-Ok.ensures' ∙ c.name_of-name.ensures)
    c.drop_combination.ensures)
