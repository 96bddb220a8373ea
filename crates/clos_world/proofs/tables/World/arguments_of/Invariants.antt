use Rattle.std.proofs.Common.{◌-◌, ◌≡◌, ◌++◌, drop, length, map}
use Rattle.lisp_data.specs.ValueView.{value_of}
use Rattle.clos_cache.specs.KeyView.{arguments_in}
use Rattle.clos_world.specs.Keys.{arguments_from}
use Rattle.clos_world.specs.World.{seen}
use Rattle.clos_world.proofs.tables.World.arguments_of.Given as goal

-- those of the arguments so far, and of the others
abbrev pub invariant-loop-place : goal.invariant-loop-place
invariant-loop-place l =
    arguments_in l.arguments.items ++ arguments_from (seen l.self) l.id.0 l.place (map value_of (drop l.place l.values))
    ≡ arguments_from (seen l.self) l.id.0 0 (map value_of l.values)

abbrev pub decreases-loop-place : goal.decreases-loop-place
decreases-loop-place l = length l.values - l.place
