use Rattle.std.proofs.Common.{◌≡◌, [], inl, rules, subst}
use Rattle.clos_circle.specs.DefinitionView.{direct_of}
use Rattle.clos_circle.specs.inner.Before.{befores}
use Rattle.clos_circle.proofs.Before.{NoneButLeft, one_less}
use Rattle.clos_circle.proofs.precedence.circle_among.Goals as goal

pub loop-first-init : goal.loop-first-init
loop-first-init c = λ x xs h. inl h

pub loop-first-preserved : goal.loop-first-preserved
loop-first-preserved c =
    let g = befores (direct_of c.args.definition) c.args.names.now in
    let none : c.in_ok-circle.circle.items ≡ [] = search rules in
    one_less g c.args.names.now c.in-Some.first.now c.in-Some.rest.now c.in_ok-circle.circle.items
    (subst (NoneButLeft g c.args.names.now) c.in-Some.ensures.cases.0 c.loop-first.invariant) c.in_ok-circle.ensures none
