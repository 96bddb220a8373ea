use Rattle.std.proofs.Common.{◌∙◌, sym}
use Rattle.clos_template.proofs.Scopes.{last_found, last_passed}
use Rattle.clos_template.proofs.scope.Scope.value.Goals as goal

pub returns-then-is : goal.returns-then-is
returns-then-is c =
    last_found c.loop-last.left.now c.in-Some.others.now c.in-Some.last.now c.args.name.now _ c.in-Some.ensures.cases.0 c.loop-last.invariant
    (sym c.is.ensures.test ∙ c.if-is.true)

pub loop-last-preserved : goal.loop-last-preserved
loop-last-preserved c =
    last_passed c.loop-last.left.now c.in-Some.others.now c.in-Some.last.now c.args.name.now _ c.in-Some.ensures.cases.0 c.loop-last.invariant
    (sym c.is.ensures.test ∙ c.if-is.false)
