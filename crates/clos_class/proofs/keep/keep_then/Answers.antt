use Rattle.std.proofs.Common.{◌≡◌, ◌==◌, Some, ap, arith, length, sym, ◌∙◌}
use Rattle.std.specs.Prelude.{slice_get}
use Rattle.clos_precedence.specs.PrecedenceView.{numbers}
use Rattle.clos_class.specs.inner.Keeping.{Tells, list_then}
use Rattle.clos_class.specs.SlotsView.{defaults, direct_slots, or_said}
use Rattle.clos_class.specs.Table.{with_row}
use Rattle.clos_class.proofs.Alike.{touched}
use Rattle.clos_class.proofs.Lasting.{longer, one_kept}
use Rattle.clos_class.proofs.Preparing.{as_many}
use Rattle.clos_class.proofs.keep.keep_then.Goals as goal

pub loop-place-preserved : goal.loop-place-preserved
loop-place-preserved c =
    let l : length c.args.preview.now.touched ≡ length c.touched.result.now = ap length (sym c.touched.ensures) ∙ as_many c.touched.result.now in
    record {
      each = one_kept
          (λ n k. Tells (direct_slots (with_row c.args.rows.now c.args.preview.now.class c.args.said.now)) (defaults (with_row c.args.rows.now c.args.preview.now.class c.args.said.now)) (list_then c.args.preview.now n) k)
          c.loop-place.then.items c.push.new.self.items c.in_ok-find_effective.field-0 c.loop-place.place c.in_ok-push.ensures.items c.loop-place.invariant.len c.loop-place.invariant.each
          (touched c.with-classes.result c.args.rows.now c.args.preview.now.class c.args.said.now (numbers c.list_at.result.now) (list_then c.args.preview.now c.loop-place.place) c.in_ok-find_effective.field-0 c.requires
          (λ m. c.with-classes.ensures m ∙ ap (λ k. or_said (Some c.args.said.now) (m == k) (slice_get c.args.rows.now m)) c.class.ensures) c.list_at.ensures c.in_ok-find_effective.ensures);
      len = longer c.loop-place.then.items c.push.new.self.items c.in_ok-find_effective.field-0 c.loop-place.place c.in_ok-push.ensures.items c.loop-place.invariant.len;
      within = omega (arith, l, c.loop-place-test.true);
    }
