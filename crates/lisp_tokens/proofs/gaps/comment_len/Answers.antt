use Rattle.std.proofs.Common.{◌∙◌, sym}
use Rattle.lisp_tokens.proofs.OnComments.{Inside-start, Inside-open, Inside-close, Inside-last, Inside-other, Inside-end}
use Rattle.lisp_tokens.proofs.gaps.comment_len.Goals as goal

pub loop-at-init : goal.loop-at-init
loop-at-init c = Inside-start c.args.text.now

pub loop-at-preserved-then-opens_comment : goal.loop-at-preserved-then-opens_comment
loop-at-preserved-then-opens_comment c =
    Inside-open c.args.text.now c.loop-at.inner c.loop-at.at (c.opens_comment.ensures.within c.if-opens_comment.true) (sym c.opens_comment.ensures.value ∙ c.if-opens_comment.true) c.loop-at.invariant

pub loop-at-preserved-then-not-closes_comment : goal.loop-at-preserved-then-not-closes_comment
loop-at-preserved-then-not-closes_comment c =
    Inside-other c.args.text.now c.loop-at.inner c.loop-at.at c.loop-at-test.true (sym c.opens_comment.ensures.value ∙ c.if-opens_comment.false) (sym c.closes_comment.ensures.value ∙ c.if-not-closes_comment.true) c.loop-at.invariant

pub loop-at-preserved : goal.loop-at-preserved
loop-at-preserved c =
    Inside-close c.args.text.now c.loop-at.inner c.loop-at.at (c.closes_comment.ensures.within c.if-not-closes_comment.false) (sym c.closes_comment.ensures.value ∙ c.if-not-closes_comment.false) c.if-inner-gt0.true c.loop-at.invariant

pub returns-else-inner-gt0 : goal.returns-else-inner-gt0
returns-else-inner-gt0 c =
    let closing = sym c.closes_comment.ensures.value ∙ c.if-not-closes_comment.false in
    (c.closes_comment.ensures.within c.if-not-closes_comment.false, Inside-last c.args.text.now c.loop-at.inner c.loop-at.at closing c.if-inner-gt0.false c.loop-at.invariant)

pub returns : goal.returns
returns c = Inside-end c.args.text.now c.loop-at.inner c.loop-at.at c.loop-at-test.false c.loop-at.invariant
