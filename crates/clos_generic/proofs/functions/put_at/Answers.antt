use Rattle.std.proofs.Common.{◌+◌}
use Rattle.clos_generic.proofs.EqlNoted.{eql_noted, notes_kept}
use Rattle.clos_generic.proofs.Rooms.{room_changed, room_less, room_there}
use Rattle.std.proofs.Common.{ap, arith, subst, sym}
use Rattle.std.proofs.lemmas.List.{length-map}
use Rattle.std.specs.Prelude.{IfOk, option_map, slice_get, ◌≡◌}
use Rattle.std.specs.List.{find}
use Rattle.clos_generic.specs.Table.{added, is_alike_at, with_methods}
use Rattle.clos_generic.specs.TableView.{function_of, functions_in}
use Rattle.clos_generic.proofs.Changed.{changed_at, methods_past_all, methods_there, on_err, on_ok, past_all, unchanged_at}
use Rattle.clos_generic.proofs.functions.put_at.Goals as goal

pub returns-then-id-len-clause-ok : goal.returns-then-id-len-clause-ok
returns-then-id-len-clause-ok c =
    on_ok c.put.result
    (changed_at function_of (with_methods (added c.args.all.now c.args.method.now)) c.args.functions.now.items c.args.id.0 c.index_mut.result.now c.put.new.self c.index_mut.ensures.value)
    c.put.ensures.ok

pub returns-then-id-len-clause-replaced : goal.returns-then-id-len-clause-replaced
returns-then-id-len-clause-replaced c =
    subst (λ ms. IfOk c.put.result (λ r. option_map (λ m. m.0) r ≡ find (is_alike_at c.args.all.now c.args.method.now.qualifiers c.args.method.now.specializers) ms))
    (sym (methods_there c.args.functions.now.items c.args.id.0 c.index_mut.result.now (omega (arith, c.args.functions.now.ok.0)) c.index_mut.ensures.value))
    c.put.ensures.replaced

pub returns-then-id-len-clause-err : goal.returns-then-id-len-clause-err
returns-then-id-len-clause-err c =
    on_err c.put.result (unchanged_at function_of c.args.functions.now.items c.args.id.0 c.index_mut.result.now c.put.new.self c.index_mut.ensures.value) c.put.ensures.err

pub returns-then-id-len-clause-succeeds : goal.returns-then-id-len-clause-succeeds
returns-then-id-len-clause-succeeds c = λ h.
    let r = room_there 1 c.args.functions.now.items c.args.id.0 c.index_mut.result.now (omega (arith, c.args.functions.now.ok.0)) c.index_mut.ensures.value h in
    c.put.ensures.succeeds (omega (arith, r))

pub returns-then-id-len-clause-rooms : goal.returns-then-id-len-clause-rooms
returns-then-id-len-clause-rooms c =
    on_ok c.put.result
    (λ l n g h. room_changed (n + 1) n c.args.functions.now.items c.args.id.0 c.index_mut.result.now c.put.new.self g c.index_mut.ensures.value (omega arith)
    (λ k. omega (arith, k, l, c.put.ensures.capacity)) h)
    c.put.ensures.len

pub returns-then-id-len-clause-err_rooms : goal.returns-then-id-len-clause-err_rooms
returns-then-id-len-clause-err_rooms c =
    on_err c.put.result
    (λ l n g h. room_changed n n c.args.functions.now.items c.args.id.0 c.index_mut.result.now c.put.new.self g c.index_mut.ensures.value (omega arith)
    (λ k. omega (arith, k, l, c.put.ensures.capacity)) h)
    c.put.ensures.err_len

pub returns-then-id-len-clause-notes : goal.returns-then-id-len-clause-notes
returns-then-id-len-clause-notes c =
    notes_kept c.args.functions.now.items c.args.id.0 c.index_mut.result.now c.put.new.self c.index_mut.ensures.value c.put.ensures.notes

pub returns-then-id-len-clause-eql : goal.returns-then-id-len-clause-eql
returns-then-id-len-clause-eql c =
    on_ok c.put.result
    (λ k l. eql_noted c.args.functions.now.items c.args.id.0 c.put.new.self c.args.method.now.specializers
    (omega (arith, c.args.functions.now.ok.0)) k)
    c.put.ensures.eql

pub returns-clause-ok : goal.returns-clause-ok
returns-clause-ok c =
    sym (past_all (with_methods (added c.args.all.now c.args.method.now)) (functions_in c.args.functions.now.items) c.args.id.0
    (omega (arith, c.args.functions.now.ok.0, length-map c.args.functions.now.items function_of)))

pub returns-clause-replaced : goal.returns-clause-replaced
returns-clause-replaced c =
    sym (ap (find (is_alike_at c.args.all.now c.args.method.now.qualifiers c.args.method.now.specializers))
    (methods_past_all (functions_in c.args.functions.now.items) c.args.id.0 (omega (arith, c.args.functions.now.ok.0, length-map c.args.functions.now.items function_of))))

pub returns-clause-rooms : goal.returns-clause-rooms
returns-clause-rooms c = λ n g h. room_less (n + 1) n (slice_get c.args.functions.now.items g) (omega arith) h

pub returns-clause-eql : goal.returns-clause-eql
returns-clause-eql c = λ l. absurd (omega (arith, l, c.args.functions.now.ok.0))
