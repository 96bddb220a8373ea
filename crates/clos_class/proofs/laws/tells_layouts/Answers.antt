use Rattle.clos_class.proofs.Told.{tells_layouts}
use Rattle.clos_class.proofs.laws.tells_layouts.Goals as goal

pub returns : goal.returns
returns c = tells_layouts
