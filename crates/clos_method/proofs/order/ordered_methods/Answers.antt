use Rattle.clos_method.proofs.ByRanks.{one_earlier}
use Rattle.std.proofs.Common.{◌∙◌, arith, sym}
use Rattle.clos_method.proofs.order.ordered_methods.Goals as goal

pub loop-left-preserved-in-Continue-branch-2 : goal.loop-left-preserved-in-Continue-branch-2
loop-left-preserved-in-Continue-branch-2 c = (
  omega (arith, c.loop-left.invariant.0),
  one_earlier c.args.methods.now c.args.order.now c.args.arguments.now c.args.candidates.now c.loop-left.left _ c.in_ok-one.one
      c.loop-left.listed.items c.place.new.listed.items c.loop-left-test.true c.loop-left.invariant.0
      (sym c.is_applicable.ensures ∙ c.if-is_applicable.true) c.in_ok-one.ensures.0 c.in_ok-one.ensures.1 c.loop-left.invariant.1
      c.in_ok-place.ensures,
)
