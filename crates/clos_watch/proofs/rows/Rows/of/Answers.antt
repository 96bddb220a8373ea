use Rattle.std.proofs.Common.{subst, sym}
use Rattle.clos_watch.specs.Rows.{Once}
use Rattle.clos_watch.proofs.Places.{once_of}
use Rattle.clos_watch.proofs.rows.Rows.of.Goals as goal

pub returns-in-Some-clause-once : goal.returns-in-Some-clause-once
returns-in-Some-clause-once c = subst Once (sym c.as_slice.ensures.keys) (once_of _ c.as_slice.ensures.unique)
