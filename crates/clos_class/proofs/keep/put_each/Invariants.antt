use Rattle.std.proofs.Common.{◌≡◌, ℕ, ◌<◌, true, length}
use Rattle.clos_precedence.specs.Precedence.{has}
use Rattle.clos_precedence.specs.PrecedenceView.{numbers}
use Rattle.clos_class.specs.inner.Keeping.{put_each}
use Rattle.clos_class.proofs.keep.put_each.Given as goal

abbrev pub invariant-loop-class : goal.invariant-loop-class
invariant-loop-class l = record {
  put : put_each (numbers l.left) l.found.items l.kept.items ≡ put_each (numbers l.fn.places) l.fn.found.items l.fn.kept.items;
  each : length l.found.items ≡ length l.left;
  within : (n : ℕ) → has (numbers l.left) n ≡ true → n < length l.kept.items;
}

abbrev pub decreases-loop-class : goal.decreases-loop-class
decreases-loop-class l = length l.left
