use Rattle.std.proofs.Common.{arith}
use Rattle.clos_class.specs.inner.Keeping.{Tells, lists_of}
use Rattle.clos_class.specs.SlotsView.{defaults, direct_slots}
use Rattle.clos_precedence.specs.PrecedenceView.{numbers}
use Rattle.clos_class.proofs.Alike.{seen}
use Rattle.clos_class.proofs.Lasting.{longer, one_kept}
use Rattle.clos_class.proofs.keep.keep_first.Goals as goal

pub loop-place-preserved : goal.loop-place-preserved
loop-place-preserved c = record {
  each = one_kept (λ n k. Tells (direct_slots c.args.rows.now) (defaults c.args.rows.now) (lists_of c.args.table.now.classes n) k)
      c.loop-place.first.items c.push.new.self.items c.in_ok-find_effective.field-0 c.loop-place.place c.in_ok-push.ensures.items c.loop-place.invariant.len c.loop-place.invariant.each
      (seen c.kept-classes.result c.args.rows.now (numbers c.precedence_or_none-list.result.now) (lists_of c.args.table.now.classes c.loop-place.place) c.in_ok-find_effective.field-0 c.kept-classes.ensures c.precedence_or_none-list.ensures c.in_ok-find_effective.ensures);
  len = longer c.loop-place.first.items c.push.new.self.items c.in_ok-find_effective.field-0 c.loop-place.place c.in_ok-push.ensures.items c.loop-place.invariant.len;
  within = omega arith;
}
