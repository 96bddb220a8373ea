use Rattle.std.proofs.Common.{ap, arith, ◌∙◌}
use Rattle.clos_generic.specs.TableView.{function_of}
use Rattle.clos_generic.specs.inner.EqlObjects.{is_noted}
use Rattle.clos_generic.proofs.Changed.{on_ok, unchanged_at}
use Rattle.clos_generic.proofs.EqlNoted.{notes_kept}
use Rattle.clos_generic.proofs.Rooms.{no_room, room_changed, room_set}
use Rattle.clos_generic.proofs.functions.reserve_at.Goals as goal

pub returns-then-id-len-clause-same : goal.returns-then-id-len-clause-same
returns-then-id-len-clause-same c =
    unchanged_at function_of c.args.functions.now.items c.args.id.0 c.index_mut.result.now c.reserve.new.self c.index_mut.ensures.value c.reserve.ensures.same

pub returns-then-id-len-clause-ok : goal.returns-then-id-len-clause-ok
returns-then-id-len-clause-ok c =
    on_ok c.reserve.result (λ h. room_set c.args.methods c.args.functions.now.items c.args.id.0 c.reserve.new.self h) c.reserve.ensures.ok

pub returns-then-id-len-clause-rooms : goal.returns-then-id-len-clause-rooms
returns-then-id-len-clause-rooms c = λ n g h.
    room_changed n n c.args.functions.now.items c.args.id.0 c.index_mut.result.now c.reserve.new.self g c.index_mut.ensures.value (omega arith)
    (λ k. omega (arith, k, c.reserve.ensures.len, c.reserve.ensures.capacity)) h

pub returns-then-id-len-clause-notes : goal.returns-then-id-len-clause-notes
returns-then-id-len-clause-notes c =
    notes_kept c.args.functions.now.items c.args.id.0 c.index_mut.result.now c.reserve.new.self c.index_mut.ensures.value
    (λ place v h. ap (λ x. is_noted x place v) c.reserve.ensures.eql_objects ∙ h)

pub returns-clause-ok : goal.returns-clause-ok
returns-clause-ok c = no_room c.args.methods c.args.functions.now.items c.args.id.0 (omega (arith, c.args.functions.now.ok.0))
