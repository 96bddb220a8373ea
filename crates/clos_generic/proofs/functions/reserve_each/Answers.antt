use Rattle.std.proofs.Common.{arith, ◌∙◌}
use Rattle.clos_generic.proofs.Rooms.{room_of_more}
use Rattle.clos_generic.proofs.functions.reserve_each.Goals as goal

pub loop-place-preserved : goal.loop-place-preserved
loop-place-preserved c = record {
  same = c.reserve_at.ensures.same ∙ c.loop-place.invariant.same;
  rooms = λ g h.
      room_of_more c.args.methods g c.loop-place.functions.items c.reserve_at.new.functions.items c.args.ids.now.items c.loop-place.place c.index.result.now (omega (arith, c.args.ids.now.ok.0)) c.index.ensures
      c.loop-place.invariant.rooms (c.reserve_at.ensures.rooms c.args.methods) c.in_ok-reserve_at.ensures.ok h;
  notes = λ place g v h. c.reserve_at.ensures.notes place g v (c.loop-place.invariant.notes place g v h);
  len = c.reserve_at.ensures.len ∙ c.loop-place.invariant.len;
  capacity = c.reserve_at.ensures.capacity ∙ c.loop-place.invariant.capacity;
}
