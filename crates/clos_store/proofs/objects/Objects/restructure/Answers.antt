use Rattle.std.proofs.Common.{None, ap, refl, ◌-◌}
use Rattle.std.specs.Prelude.{slice_set}
use Rattle.clos_store.proofs.Noting.{noted_update}
use Rattle.clos_store.proofs.objects.Objects.restructure.Goals as goal

pub invariant_of-self-2 : goal.invariant_of-self-2
invariant_of-self-2 c =
    noted_update c.self.inside.classes c.self.inside.store.contents c.restructure.new.self.contents c.self.inside.definitions c.args.id.0 c.self.inside.notes.items
    (slice_set c.self.inside.notes.items (c.args.id.0 - 1) None) c.args.layout.now c.self.invariant (ap (λ h. h.contents) c.in_ok-restructure.ensures.ok) refl
