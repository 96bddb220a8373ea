use Rattle.std.proofs.Common.{◌≡◌, map, take}
use Rattle.lisp_data.specs.ValueView.{value_of}
use Rattle.clos_precedence.specs.PrecedenceView.{numbers}
use Rattle.clos_world.specs.World.{class_of, seen}
use Rattle.clos_world.proofs.tables.World.classes_of.Given as goal

abbrev pub invariant-loop-value : goal.invariant-loop-value
invariant-loop-value l = numbers l.classes.items ≡ map (class_of (seen l.self)) (map value_of (take l.value-index l.values))
