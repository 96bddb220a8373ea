use Rattle.std.proofs.Common.{◌≡◌, ◌++◌, length}
use Rattle.std.specs.List.{zip}
use Rattle.clos_store.specs.Update.{bound, lost}
use Rattle.clos_store.specs.UpdateView.{values_of}
use Rattle.clos_store.proofs.update.lost_values.Given as goal

abbrev pub invariant-loop-name : goal.invariant-loop-name
invariant-loop-name l =
    values_of l.values.items ++ bound (lost l.fn.layout.locals (zip l.left l.kept)) ≡ bound (lost l.fn.layout.locals (zip l.fn.names l.fn.slots))

abbrev pub decreases-loop-name : goal.decreases-loop-name
decreases-loop-name l = length l.left
