use Rattle.std.proofs.Common.{◌+◌, arith, subst, sym}
use Rattle.clos_circle.specs.inner.Before.{related_by}
use Rattle.clos_circle.specs.inner.Upward.{Found, HasAbove, IsWay, found_in}
use Rattle.clos_circle.proofs.WayUp.{above_on, way_on}
use Rattle.clos_circle.proofs.upward.Upward.new.Goals as goal

pub loop-place-preserved : goal.loop-place-preserved
loop-place-preserved c =
    let f = related_by c.args.relation in
    let u = found_in c.loop-place.found in
    record {
      way = subst (IsWay f c.args.name.now) (sym c.in_ok-take_related.ensures) (way_on f c.args.name.now u c.loop-place.place c.loop-place.invariant.way);
      above = subst (λ (x : Found). HasAbove f (c.loop-place.place + 1) x.0) (sym c.in_ok-take_related.ensures)
          (above_on f u c.loop-place.place (omega (arith, c.loop-place-test.true, c.len.ensures, c.loop-place.found.names.ok.0)) c.loop-place.invariant.above);
    }
