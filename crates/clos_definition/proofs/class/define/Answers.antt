use Rattle.std.proofs.Common.{ap, length, subst, ◌∙◌}
use Rattle.clos_cache.specs.Cache.{Drops, of_classes}
use Rattle.clos_cache.specs.ChangeView.{numbers_of}
use Rattle.clos_world.proofs.Drops.{class_definition_stays}
use Rattle.clos_definition.proofs.class.define.Goals as goal

pub returns-clause-kept : goal.returns-clause-kept
returns-clause-kept c =
    class_definition_stays c.args.objects.now.classes c.define.new.self.classes c.args.definition.now (length c.args.objects.now.contents.cells)
    c.args.cache.now c.drop_classes.new.self (ap (λ o. o.classes) c.in_ok-changed.ensures.ok)
    (subst (λ l. Drops (of_classes l) c.args.cache.now c.drop_classes.new.self) (ap numbers_of c.deref.ensures.value ∙ c.in_ok-changed.ensures.changed) c.drop_classes.ensures)
