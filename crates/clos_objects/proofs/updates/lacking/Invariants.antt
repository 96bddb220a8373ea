use Rattle.std.proofs.Common.{◌≡◌, ◌++◌, length}
use Rattle.std.specs.Prelude.{not, option_map}
use Rattle.std.specs.List.{filter}
use Rattle.clos_machine.specs.clos_world.World.{seen}
use Rattle.clos_machine.specs.clos_meaning.Slots.{has_slot}
use Rattle.clos_objects.proofs.updates.lacking.Given as goal

abbrev pub invariant-loop-name : goal.invariant-loop-name
invariant-loop-name l =
    l.found.items ++ filter (λ n. not (has_slot (seen l.fn.world).classes (option_map (λ c. c.0) l.fn.class) n)) l.left
    ≡ filter (λ n. not (has_slot (seen l.fn.world).classes (option_map (λ c. c.0) l.fn.class) n)) l.fn.names

abbrev pub decreases-loop-name : goal.decreases-loop-name
decreases-loop-name l = length l.left
