use Rattle.std.proofs.Common.{arith, ap, ◌∙◌}
use Rattle.clos_generic.proofs.Rooms.{room_changed}
use Rattle.std.specs.Prelude.{◌==◌}
use Rattle.clos_generic.specs.Table.{with_methods, without}
use Rattle.clos_generic.specs.TableView.{function_of}
use Rattle.clos_generic.specs.inner.EqlObjects.{is_noted}
use Rattle.clos_generic.proofs.Changed.{changed_at}
use Rattle.clos_generic.proofs.EqlNoted.{notes_kept}
use Rattle.clos_generic.proofs.functions.take_out_at.Goals as goal

pub returns-clause-seen : goal.returns-clause-seen
returns-clause-seen c =
    changed_at function_of (with_methods (without (λ n. n == c.args.method.0))) c.args.functions.now.items c.args.id.0 c.index_mut.result.now c.take_out.new.self c.index_mut.ensures.value
    c.take_out.ensures.seen

pub returns-clause-rooms : goal.returns-clause-rooms
returns-clause-rooms c = λ n g h.
    room_changed n n c.args.functions.now.items c.args.id.0 c.index_mut.result.now c.take_out.new.self g c.index_mut.ensures.value (omega arith)
    (λ k. omega (arith, k, c.take_out.ensures.len, c.take_out.ensures.capacity)) h

pub returns-clause-notes : goal.returns-clause-notes
returns-clause-notes c =
    notes_kept c.args.functions.now.items c.args.id.0 c.index_mut.result.now c.take_out.new.self c.index_mut.ensures.value
    (λ place v h. ap (λ x. is_noted x place v) c.take_out.ensures.eql_objects ∙ h)
