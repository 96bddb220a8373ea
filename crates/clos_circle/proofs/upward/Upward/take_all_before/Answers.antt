use Rattle.std.proofs.Common.{ap, sym, ◌∙◌}
use Rattle.clos_circle.specs.DefinitionView.{direct_of}
use Rattle.clos_circle.specs.inner.Before.{befores, next_before}
use Rattle.clos_circle.specs.inner.Upward.{found_in, with_all}
use Rattle.clos_circle.proofs.Before.{with_append}
use Rattle.clos_circle.proofs.upward.Upward.take_all_before.Goals as goal

pub loop-by-preserved : goal.loop-by-preserved
loop-by-preserved c =
    let f = direct_of c.args.definition in
    let x = c.args.name.now in
    let place = c.args.place in
    let u = found_in c.loop-by.self in
    let by = c.in-Some.by.now in
    let others = c.in-Some.others.now in
    ap (with_all (befores f others x) place)
    (c.in_ok-take_before.ensures ∙ ap (λ l. with_all (next_before by l x) place u) c.direct.ensures)
    ∙ sym (with_append (next_before by (f by) x) (befores f others x) place u)
    ∙ ap (λ l. with_all (befores f l x) place u) (sym c.in-Some.ensures.cases.0) ∙ c.loop-by.invariant
