use Rattle.clos_precedence.specs.PrecedenceView.{numbers}
use Rattle.clos_hierarchy.proofs.Filled.{knows_end}
use Rattle.clos_hierarchy.proofs.fill.fill.Goals as goal

pub returns-then-not-branch-clause-knows : goal.returns-then-not-branch-clause-knows
returns-then-not-branch-clause-knows c =
    knows_end c.in_ok-fill_forward.field-0 c.args.definitions.now c.args.kept.now.items c.loop-alloc.kept.items c.fill_forward.new.kept.items (numbers c.args.places.now)
    c.if-not-branch.true c.loop-alloc.invariant.0 c.loop-alloc.invariant.2 c.in_ok-fill_forward.ensures.filled
