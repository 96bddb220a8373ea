use Rattle.std.proofs.Common.{◌≡◌, map, length}
use Rattle.lisp_data.specs.ValueView.{value_of}
use Rattle.lisp_prims.specs.Lists.{put_before}
use Rattle.lisp_prims.proofs.lists.put_before.Given as goal

abbrev pub invariant-loop-last : goal.invariant-loop-last
invariant-loop-last l =
    put_before (map value_of l.values) l.fn.tail ≡ put_before (map value_of l.left) l.items

abbrev pub decreases-loop-last : goal.decreases-loop-last
decreases-loop-last l = length l.left
