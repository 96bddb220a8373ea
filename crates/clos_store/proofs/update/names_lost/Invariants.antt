use Rattle.std.proofs.Common.{◌≡◌, ◌++◌, length}
use Rattle.std.specs.Prelude.{not}
use Rattle.std.specs.List.{filter}
use Rattle.clos_store.specs.Update.{is_among}
use Rattle.clos_store.proofs.update.names_lost.Given as goal

abbrev pub invariant-loop-name : goal.invariant-loop-name
invariant-loop-name l =
    l.discarded.items ++ filter (λ n. not (is_among l.fn.layout.locals n)) l.left ≡ filter (λ n. not (is_among l.fn.layout.locals n)) l.fn.names

abbrev pub decreases-loop-name : goal.decreases-loop-name
decreases-loop-name l = length l.left
