use Rattle.std.proofs.Common.{arith}
use Rattle.lisp_prims.proofs.OnSizes.{size-told}
use Rattle.lisp_prims.proofs.lists.size_before.Goals as goal

pub returns : goal.returns
returns c =
    size-told c.sized.result c.args.values.now c.args.tail.now c.len.result c.loop-value.nesting c.loop-value.value-index
    c.sized.ensures.size c.len.ensures.value c.loop-value.invariant (omega arith) (omega arith) (omega arith)
