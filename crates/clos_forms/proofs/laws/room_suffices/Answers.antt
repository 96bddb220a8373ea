use Rattle.clos_forms.proofs.Room.{room_suffices}
use Rattle.clos_forms.proofs.laws.room_suffices.Goals as goal

pub returns : goal.returns
returns c = room_suffices
