use Rattle.std.proofs.Common.{◌≤◌, length, arith}
use Rattle.clos_hierarchy.proofs.Climbing.{climbs_first, climbs_next, never_more}
use Rattle.clos_hierarchy.proofs.cycle.is_circular.Goals as goal

pub loop-place-init : goal.loop-place-init
loop-place-init c =
    climbs_first c.args.definitions.now c.args.class.0 c.new-above.result c.above.result.now c.add_defined.new.seen c.new-above.ensures c.above.ensures c.in_ok-add_defined.ensures

pub loop-place-smaller : goal.loop-place-smaller
loop-place-smaller c =
    let l : length c.loop-place.above ≤ length c.args.definitions.now.names = never_more c.args.definitions.now c.args.class.0 c.loop-place.above c.loop-place.place c.loop-place.invariant in
    omega (arith, l, c.loop-place-test.true, c.len.ensures)

pub loop-place-preserved : goal.loop-place-preserved
loop-place-preserved c =
    climbs_next c.args.definitions.now c.args.class.0 c.loop-place.above c.add_defined-in-loop-place.new.seen c.loop-place.place c.at-next.result.0 c.above-in-loop-place-2.result.now c.loop-place.invariant
    (omega (arith, c.loop-place-test.true, c.len.ensures)) c.at-next.ensures c.above-in-loop-place-2.ensures c.in_ok-add_defined-2.ensures
