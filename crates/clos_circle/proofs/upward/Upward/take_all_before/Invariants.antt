use Rattle.std.proofs.Common.{◌≡◌, length}
use Rattle.clos_circle.specs.DefinitionView.{direct_of}
use Rattle.clos_circle.specs.inner.Before.{befores}
use Rattle.clos_circle.specs.inner.Upward.{found_in, with_all}
use Rattle.clos_circle.proofs.upward.Upward.take_all_before.Given as goal

abbrev pub invariant-loop-by : goal.invariant-loop-by
invariant-loop-by l =
    with_all (befores (direct_of l.definition) l.left l.name) l.place (found_in l.self)
    ≡ with_all (befores (direct_of l.definition) l.initial.left l.name) l.place (found_in l.initial.self)

abbrev pub decreases-loop-by : goal.decreases-loop-by
decreases-loop-by l = length l.left
