use Rattle.std.proofs.Common.{◌-◌, length}
use Rattle.lisp_tokens.proofs.OnComments.{Inside}
use Rattle.lisp_tokens.proofs.gaps.comment_len.Given as goal

-- the comment closes where what follows closes those that are open in it, and then the comment
abbrev pub invariant-loop-at : goal.invariant-loop-at
invariant-loop-at l = Inside l.text l.inner l.at

abbrev pub decreases-loop-at : goal.decreases-loop-at
decreases-loop-at l = length l.text - l.at
