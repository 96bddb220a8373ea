use Rattle.std.proofs.Common.{◌≡◌, ◌+◌, drop, false}
use Rattle.lisp_tokens.specs.Strings.{body_len}
use Rattle.lisp_tokens.proofs.strings.body_len.Given as goal

abbrev pub invariant-loop-at : goal.invariant-loop-at
invariant-loop-at l = body_len l.taken (drop l.at l.text) + l.at ≡ body_len false l.text
