use Rattle.clos_class.proofs.Placed.{places_slots}
use Rattle.clos_class.proofs.laws.places_slots.Goals as goal

pub returns : goal.returns
returns c = places_slots
