use Rattle.std.proofs.Common.{◌≡◌, ◌++◌, length, map}
use Rattle.clos_definition.specs.Generic.{place_in}
use Rattle.clos_definition.proofs.generic.places_of.Given as goal

abbrev pub invariant-loop-name : goal.invariant-loop-name
invariant-loop-name l = l.places ++ map (place_in l.required) l.left ≡ map (place_in l.required) l.initial.left

abbrev pub decreases-loop-name : goal.decreases-loop-name
decreases-loop-name l = length l.left
