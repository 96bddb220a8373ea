use Rattle.std.proofs.Common.{◌≡◌}
use Rattle.clos_class.specs.Table.{cells_from}
use Rattle.clos_class.proofs.reserve.cells_from.Given as goal

abbrev pub invariant-loop-place : goal.invariant-loop-place
invariant-loop-place l = l.cells.items ≡ cells_from l.fn.first.0 l.place
