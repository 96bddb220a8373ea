use Rattle.std.proofs.Common.{◌<◌, length, arith}
use Rattle.clos_template.specs.Meaning.{meanings}
use Rattle.clos_template.proofs.Expanding.{test_fails}
use Rattle.clos_template.proofs.expansion.+expand.Goals as goal

pub clauses-returns-in-Err-clause-comes : goal.clauses-returns-in-Err-clause-comes
clauses-returns-in-Err-clause-comes t c =
    let lt : c.loop-has_body.has_body-index < length c.args.bodies.now = omega arith in
    test_fails c.in-Err.fault _ _ c.args.bodies.now c.loop-has_body.has_body-index (meanings c.loop-has_body.rest.now) c.loop-has_body.scope
    c.loop-has_body.left _ lt c.loop-has_body.invariant.0 c.in-Err.ensures.comes
