use Rattle.std.proofs.Common.{◌-◌, ◌∙◌, ap, arith, get_or, sym}
use Rattle.clos_forms.proofs.NamesBehind.{found_twice}
use Rattle.clos_forms.proofs.distinct.are_distinct.Goals as goal

pub returns-then-not-is_new : goal.returns-then-not-is_new
returns-then-not-is_new c =
    sym
    (found_twice c.args.names.now (c.loop-at.at - 1) c.loop-at.at c.in_ok-copy.field-0 _ (omega (arith, c.loop-at-test.true)) c.loop-at.invariant.0
    (c.in_ok-copy.ensures ∙ c.index-names-at.is ∙ ap (get_or c.args.names.now (c.loop-at.at - 1)) (sym c.in_ok-copy.ensures))
    (c.loop-at.invariant.2 c.in_ok-copy.field-0) (sym c.in_ok-is_new.ensures.added ∙ c.if-not-is_new.true))
