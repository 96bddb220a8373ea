use Rattle.std.proofs.Common.{◌≤◌, ◌-◌, List, ℕ, length, drop}
use Rattle.lisp_tokens.specs.Fault.{Kind}
use Rattle.lisp_tokens.specs.Gaps.{Gaps, GapFails}
use Rattle.lisp_tokens.proofs.gaps.skip_gaps.Given as goal

-- the gaps from here on are the rest of those from the start
abbrev pub invariant-loop-at : goal.invariant-loop-at
invariant-loop-at l = record {
  begun : l.fn.from ≤ l.at;
  within : l.at ≤ length l.bytes;
  gaps : (rest : List ℕ) → Gaps (drop l.at l.bytes) rest → Gaps (drop l.fn.from l.bytes) rest;
  fails : (kind : Kind) (at : List ℕ) → GapFails (drop l.at l.bytes) kind at → GapFails (drop l.fn.from l.bytes) kind at;
}

abbrev pub decreases-loop-at : goal.decreases-loop-at
decreases-loop-at l = length l.bytes - l.at
