use Rattle.std.proofs.Common.{◌≡◌, true, get_or, arith, sym, ◌∙◌, drop}
use Rattle.lisp_tokens.specs.Characters.{is_blank}
use Rattle.lisp_tokens.specs.Gaps.{opens_comment}
use Rattle.lisp_tokens.proofs.OnGaps.{Gaps-blank, GapFails-blank, Gaps-comment, GapFails-comment, Gaps-block, GapFails-block, Gaps-none, Gaps-end}
use Rattle.lisp_tokens.proofs.gaps.skip_gaps.Goals as goal

pub loop-at-preserved-then-is_blank : goal.loop-at-preserved-then-is_blank
loop-at-preserved-then-is_blank c =
    let bytes = c.args.bytes.now in
    let at = c.loop-at.at in
    let blank : is_blank (get_or bytes at 0) ≡ true = sym c.is_blank.ensures ∙ c.if-is_blank.true in
    record {
      begun = omega arith;
      within = omega arith;
      gaps = λ rest gaps. c.loop-at.invariant.gaps rest (Gaps-blank bytes at rest c.loop-at-test.true blank gaps);
      fails = λ kind rest fault. c.loop-at.invariant.fails kind rest (GapFails-blank bytes at kind rest c.loop-at-test.true blank fault);
    }

pub returns : goal.returns
returns c =
    (c.loop-at.invariant.begun, c.loop-at.invariant.within, c.loop-at.invariant.gaps _ (Gaps-end c.args.bytes.now c.loop-at.at c.loop-at-test.false))

pub loop-at-preserved-then-byte-eq59 : goal.loop-at-preserved-then-byte-eq59
loop-at-preserved-then-byte-eq59 c =
    let bytes = c.args.bytes.now in
    let at = c.loop-at.at in
    let found = c.in_ok-at.ensures in
    record {
      begun = omega (arith, found.0);
      within = found.1;
      gaps = λ rest gaps. c.loop-at.invariant.gaps rest (Gaps-comment bytes at c.in_ok-at.at rest c.loop-at-test.true c.if-byte-eq59.true found.2 found.0 gaps);
      fails = λ kind rest fault. c.loop-at.invariant.fails kind rest (GapFails-comment bytes at c.in_ok-at.at kind rest c.loop-at-test.true c.if-byte-eq59.true found.2 found.0 fault);
    }

pub loop-at-preserved : goal.loop-at-preserved
loop-at-preserved c =
    let bytes = c.args.bytes.now in
    let at = c.loop-at.at in
    let found = c.in_ok-at-2.ensures in
    let opens : opens_comment (drop at bytes) ≡ true = sym c.opens_comment.ensures.value ∙ c.if-opens_comment.true in
    record {
      begun = omega (arith, found.1);
      within = found.2;
      gaps = λ rest gaps. c.loop-at.invariant.gaps rest (Gaps-block bytes at c.in_ok-at-2.at found.0 rest opens found.1 found.3 found.4 gaps);
      fails = λ kind rest fault. c.loop-at.invariant.fails kind rest (GapFails-block bytes at c.in_ok-at-2.at found.0 kind rest opens found.1 found.3 found.4 fault);
    }

pub returns-else-opens_comment : goal.returns-else-opens_comment
returns-else-opens_comment c =
    let bytes = c.args.bytes.now in
    (c.loop-at.invariant.begun, c.loop-at.invariant.within, c.loop-at.invariant.gaps _ (Gaps-none bytes c.loop-at.at c.loop-at-test.true (sym c.is_blank.ensures ∙ c.if-is_blank.false) c.if-byte-eq59.false (sym c.opens_comment.ensures.value ∙ c.if-opens_comment.false)))
