use Rattle.std.proofs.Common.{ap, sym, ◌∙◌}
use Rattle.clos_precedence.specs.Precedence.{has}
use Rattle.clos_hierarchy.specs.inner.Touched.{have_it}
use Rattle.clos_hierarchy.proofs.Ascending.{merges_next, one_has_it}
use Rattle.clos_hierarchy.proofs.touched.add_below.Goals as goal

pub loop-number-preserved-in_ok-push : goal.loop-number-preserved-in_ok-push
loop-number-preserved-in_ok-push c =
    merges_next c.args.places.now.items c.loop-number.places.items c.push.new.self.items (have_it c.args.kept.now c.args.class.0 c.args.noted.now)
    (have_it c.args.kept.now c.args.class.0 c.loop-number.left.now) (have_it c.args.kept.now c.args.class.0 c.in-Some.others.now)
    c.in-Some.number.now c.loop-number.invariant c.in_ok-push.ensures.items
    (λ n. one_has_it c.args.kept.now c.args.class.0 c.in-Some.number.now c.in-Some.others.now (ap (λ l. has l c.args.class.0) (sym c.list_of.ensures) ∙ sym c.contains.ensures ∙ c.if-contains.true) n
    ∙ ap (λ ns. have_it c.args.kept.now c.args.class.0 ns n) (sym c.in-Some.ensures.cases.0))
