use Rattle.clos_hierarchy.proofs.Ways.{finds_circles}
use Rattle.clos_hierarchy.proofs.laws.finds_circles.Goals as goal

pub returns : goal.returns
returns c = finds_circles
