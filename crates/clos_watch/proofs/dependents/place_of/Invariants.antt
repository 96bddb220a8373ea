use Rattle.std.proofs.Common.{◌≡◌, ◌+◌, length}
use Rattle.std.specs.Prelude.{option_map}
use Rattle.clos_watch.specs.Handed.{place_of}
use Rattle.clos_watch.proofs.dependents.place_of.Given as goal

abbrev pub invariant-loop-first : goal.invariant-loop-first
invariant-loop-first l =
    (option_map (λ i. l.place + i) (place_of l.left l.name) ≡ place_of l.fn.names l.name) × (l.place + length l.left ≡ length l.fn.names)

abbrev pub decreases-loop-first : goal.decreases-loop-first
decreases-loop-first l = length l.left
