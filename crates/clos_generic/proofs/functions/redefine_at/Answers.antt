use Rattle.std.proofs.Common.{arith, subst, sym, ◌+◌, ◌≤◌, ap, ◌∙◌}
use Rattle.std.specs.Prelude.{vec_len, vec_capacity}
use Rattle.clos_generic.proofs.Rooms.{room_changed}
use Rattle.clos_generic.specs.Table.{redefined}
use Rattle.clos_generic.specs.TableView.{function_of}
use Rattle.clos_generic.specs.inner.EqlObjects.{is_noted}
use Rattle.clos_generic.proofs.Changed.{changed_at}
use Rattle.clos_generic.proofs.EqlNoted.{notes_kept}
use Rattle.clos_generic.proofs.functions.redefine_at.Goals as goal

pub returns-clause-seen : goal.returns-clause-seen
returns-clause-seen c = changed_at function_of (redefined c.args.options) c.args.functions.now.items c.args.id.0 c.index_mut.result.now c.redefine.new.self c.index_mut.ensures.value c.redefine.ensures.seen

pub returns-clause-rooms : goal.returns-clause-rooms
returns-clause-rooms c = λ n g h.
    room_changed n n c.args.functions.now.items c.args.id.0 c.index_mut.result.now c.redefine.new.self g c.index_mut.ensures.value (omega arith)
    (subst (λ v. vec_len v + n ≤ vec_capacity v) (sym c.redefine.ensures.methods)) h

pub returns-clause-notes : goal.returns-clause-notes
returns-clause-notes c =
    notes_kept c.args.functions.now.items c.args.id.0 c.index_mut.result.now c.redefine.new.self c.index_mut.ensures.value
    (λ place v h. ap (λ x. is_noted x place v) c.redefine.ensures.eql_objects ∙ h)
