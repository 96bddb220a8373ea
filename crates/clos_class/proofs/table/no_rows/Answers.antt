use Rattle.std.proofs.Common.{◌≡◌, ◌≤◌, length, arith, ap, sym, ◌∙◌}
use Rattle.std.specs.Prelude.{replicate}
use Rattle.clos_class.specs.SlotsView.{says_nothing}
use Rattle.clos_class.proofs.Standing.{longer_by_one, not_there, one_row, there}
use Rattle.clos_class.proofs.table.no_rows.Goals as goal

pub loop-alloc-preserved : goal.loop-alloc-preserved
loop-alloc-preserved c =
    let l = longer_by_one c.loop-alloc.rows.items c.push.new.self.items c.new.result c.in_ok-push.ensures.items in
    let t = there c.args.table.now.classes.names c.len.result c.name.result (sym c.is_some.ensures ∙ c.loop-alloc-test.true) c.name.ensures in record {
      rows = one_row c.loop-alloc.rows.items c.push.new.self.items c.new.result says_nothing c.in_ok-push.ensures.items c.new.ensures c.loop-alloc.invariant.rows;
      within = omega (arith, l, t, c.len.ensures);
    }

pub returns : goal.returns
returns c =
    let t : length c.args.table.now.classes.names ≤ c.len.result = not_there c.args.table.now.classes.names c.len.result c.name.result (sym c.is_some.ensures ∙ c.loop-alloc-test.false) c.name.ensures in
    let e : length c.loop-alloc.rows.items ≡ length c.args.table.now.classes.names = omega (arith, t, c.len.ensures, c.loop-alloc.invariant.within) in
    c.loop-alloc.invariant.rows ∙ ap (λ n. replicate n says_nothing) e
