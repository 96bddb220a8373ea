use Rattle.clos_cache.proofs.Counting.{counts_first_uses}
use Rattle.clos_cache.proofs.laws.counts_first_uses.Goals as goal

pub returns : goal.returns
returns c = counts_first_uses
