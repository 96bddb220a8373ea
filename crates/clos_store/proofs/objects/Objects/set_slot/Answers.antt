use Rattle.std.proofs.Common.{ap}
use Rattle.std.specs.Prelude.{option_map}
use Rattle.lisp_data.specs.ValueView.{value_of}
use Rattle.clos_store.proofs.Noting.{noted_slot}
use Rattle.clos_store.proofs.objects.Objects.set_slot.Goals as goal

pub invariant_of-self : goal.invariant_of-self
invariant_of-self c =
    noted_slot c.self.inside.classes c.self.inside.store.contents c.set_slot.new.self.contents c.self.inside.definitions c.args.id.0 c.self.inside.notes.items c.args.name.now
    (option_map value_of c.args.value) c.self.invariant (ap (λ h. h.contents) c.set_slot.ensures)
