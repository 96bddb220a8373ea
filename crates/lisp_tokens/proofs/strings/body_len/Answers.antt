use Rattle.std.proofs.Common.{arith}
use Rattle.lisp_tokens.proofs.OnStrings.{body_len-taken, body_len-backslash, body_len-plain}
use Rattle.lisp_tokens.proofs.strings.body_len.Goals as goal
use Rattle.lisp_tokens.proofs.strings.body_len.Goals.{then-taken, else-taken+then-byte-eq92, else-taken+else-byte-eq92+else-byte-eq34}

pub loop-at-preserved : goal.loop-at-preserved
loop-at-preserved c =
    let text = c.args.text.now in
    let at = c.loop-at.at in
    let within = c.loop-at-test.true in
    elim c.if-taken.branch [
      | then-taken w ↦
          let before = rw w.if-taken.true at c.loop-at.invariant in
          rw w.taken-is (omega (arith, before, body_len-taken text at within))
      | else-taken+then-byte-eq92 w ↦
          let before = rw w.if-taken.false at c.loop-at.invariant in
          rw w.taken-is (omega (arith, before, body_len-backslash text at within w.if-byte-eq92.true))
      | else-taken+else-byte-eq92+else-byte-eq34 w ↦
          let before = rw w.if-taken.false at c.loop-at.invariant in
          rw (w.taken-is, w.if-taken.false) (omega (arith, before, body_len-plain text at within w.if-byte-eq92.false w.if-byte-eq34.false))
    ]
