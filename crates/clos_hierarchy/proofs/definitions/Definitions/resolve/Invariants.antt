use Rattle.std.proofs.Common.{◌≡◌, ◌++◌, Some, None, length, option_map, if◌then◌else◌}
use Rattle.clos_hierarchy.specs.Classes.{defined, are_defined}
use Rattle.clos_precedence.specs.PrecedenceView.{numbers}
use Rattle.clos_hierarchy.proofs.definitions.Definitions.resolve.Given as goal

abbrev pub invariant-loop-name : goal.invariant-loop-name
invariant-loop-name l =
    option_map (λ xs. numbers l.classes.items ++ xs) (if are_defined l.fn.self l.left then Some (defined l.fn.self l.left) else None)
    ≡ (if are_defined l.fn.self l.fn.names then Some (defined l.fn.self l.fn.names) else None)

abbrev pub decreases-loop-name : goal.decreases-loop-name
decreases-loop-name l = length l.left
