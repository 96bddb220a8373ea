use Rattle.std.proofs.Common.{◌≡◌, ◌+◌, ◌*◌, map, vec_len}
use Rattle.std.specs.Prelude.{Some}
use Rattle.clos_template.specs.Grammar.{each_part, tree_at, trees_at}
use Rattle.clos_template.specs.PartView.{part_of}
use Rattle.clos_template.proofs.tree.+tree.Given as goal

abbrev pub decreases-tree_at : goal.decreases-tree_at
decreases-tree_at l = 2 * l.room

abbrev pub decreases-trees_at : goal.decreases-trees_at
decreases-trees_at l = 2 * l.room + 1

abbrev pub invariant-trees_at-loop-part : goal.invariant-trees_at-loop-part
invariant-trees_at-loop-part l =
    each_part (tree_at l.room) (map part_of l.parts.items) (Some l.templates) ≡ trees_at l.room (map part_of l.fn.parts.items)

abbrev pub decreases-trees_at-loop-part : goal.decreases-trees_at-loop-part
decreases-trees_at-loop-part l = vec_len l.parts
