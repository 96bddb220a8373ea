use Rattle.std.proofs.Common.{◌≡◌, ◌++◌, length}
use Rattle.clos_effects.specs.clos_definition.Class.{initforms}
use Rattle.clos_making.proofs.made.initforms.Given as goal

abbrev pub invariant-loop-cell : goal.invariant-loop-cell
invariant-loop-cell l = l.forms.items ++ initforms l.left ≡ initforms l.fn.cells

abbrev pub decreases-loop-cell : goal.decreases-loop-cell
decreases-loop-cell l = length l.left
