use Rattle.std.proofs.Common.{[], ap, subst, sym, ◌∙◌}
use Rattle.clos_precedence.specs.PrecedenceView.{numbers}
use Rattle.clos_hierarchy.proofs.Ascending.{Orders, orders_first, orders_skip, orders_take}
use Rattle.clos_hierarchy.proofs.Filled.{numbers_end}
use Rattle.clos_hierarchy.proofs.touched.in_order.Goals as goal

pub loop-number-init : goal.loop-number-init
loop-number-init c =
    subst (λ v. Orders c.args.places.items (numbers v) c.as_slice-left.result.now) (sym c.new-classes.ensures.items)
    (subst (Orders c.args.places.items []) (sym c.as_slice-left.ensures.value) (orders_first c.args.places.items c.sort.new.self.items c.sort.ensures.permutation c.in_ok-sort.ensures.sorted))

pub loop-number-preserved-in_ok-push : goal.loop-number-preserved-in_ok-push
loop-number-preserved-in_ok-push c =
    subst (λ v. Orders c.args.places.items v c.in-Some.others.now) (sym (ap numbers c.in_ok-push.ensures.items ∙ numbers_end c.loop-number.classes.items (record { 0 = c.in-Some.number.now })))
    (orders_take c.args.places.items (numbers c.loop-number.classes.items) c.in-Some.others.now c.in-Some.number.now
    (subst (Orders c.args.places.items (numbers c.loop-number.classes.items)) c.in-Some.ensures.cases.0 c.loop-number.invariant) (sym c.begins_with.ensures ∙ c.if-not-begins_with.true))

pub loop-number-preserved : goal.loop-number-preserved
loop-number-preserved c =
    orders_skip c.args.places.items (numbers c.loop-number.classes.items) c.in-Some.others.now c.in-Some.number.now
    (subst (Orders c.args.places.items (numbers c.loop-number.classes.items)) c.in-Some.ensures.cases.0 c.loop-number.invariant) (sym c.begins_with.ensures ∙ c.if-not-begins_with.false)
