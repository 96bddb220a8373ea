use Rattle.std.proofs.Common.{◌≡◌, ◌≤◌, ◌↔◌}
use Rattle.lisp_data.specs.Value.{size_of_value, size_of_values}
use Rattle.lisp_data.specs.ValueView.{value_of}
use Rattle.lisp_data.proofs.equality.+equal.Given as goal

abbrev pub decreases-equal : goal.decreases-equal
decreases-equal l = size_of_value (value_of l.a.now)

abbrev pub decreases-equal_items : goal.decreases-equal_items
decreases-equal_items l = size_of_values l.a.now

-- the lists are equal where what is left of them is, which is no larger
abbrev pub invariant-equal_items-loop-x : goal.invariant-equal_items-loop-x
invariant-equal_items-loop-x l = ((l.fn.a ≡ l.fn.b) ↔ (l.left ≡ l.right)) × (size_of_values l.left ≤ size_of_values l.fn.a)
