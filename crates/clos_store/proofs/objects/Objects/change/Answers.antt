use Rattle.std.proofs.Common.{[], ◌∷◌, ◌++◌, None, ap, subst, sym, ◌-◌, ◌∙◌}
use Rattle.std.specs.Prelude.{IsSome, slice_set}
use Rattle.clos_store.specs.Objects.{Objects}
use Rattle.clos_store.specs.Store.{instance}
use Rattle.clos_store.proofs.Noting.{noted_change}
use Rattle.clos_store.proofs.objects.Objects.change.Goals as goal

pub invariant_of-self-2 : goal.invariant_of-self-2
invariant_of-self-2 c =
    noted_change c.self.inside.classes c.self.inside.store.contents c.change.new.self.contents c.self.inside.definitions c.args.id.0 c.args.class.0 c.self.inside.notes.items c.push.new.self.items
    c.args.layout.now c.self.invariant (subst (λ (o : Objects). IsSome (instance o.contents c.args.id.0)) (sym c.self.view_is) c.requires)
    (ap (λ h. h.contents) c.in_ok-copy.ensures.ok.1)
    (c.in-Ok.ensures.items ∙ ap (λ ks. slice_set ks (c.args.id.0 - 1) None ++ None ∷ []) c.in_ok-reserve.ensures.items)
