use Rattle.clos_hierarchy.proofs.Lacking.{finds_lacking}
use Rattle.clos_hierarchy.proofs.laws.finds_lacking.Goals as goal

pub returns : goal.returns
returns c = finds_lacking
