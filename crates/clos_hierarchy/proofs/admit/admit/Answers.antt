use Rattle.std.proofs.Common.{ap, ◌∙◌}
use Rattle.std.specs.Prelude.{not, ◌||◌}
use Rattle.clos_hierarchy.specs.Classes.{number_of, is_lacking, listing}
use Rattle.clos_precedence.specs.PrecedenceView.{numbers}
use Rattle.clos_hierarchy.specs.TableView.{Refuses}
use Rattle.clos_hierarchy.specs.inner.KeptView.{listing_at}
use Rattle.clos_hierarchy.proofs.Admitted.{found_wrong_own, placed_in, placed_own}
use Rattle.clos_hierarchy.proofs.Consistent.{placed_consistent}
use Rattle.clos_hierarchy.proofs.admit.admit.Goals as goal

pub place-requires : goal.place-requires
place-requires c =
    placed_in c.args.definitions.now c.put.new.self c.in_ok-copy.field-0 c.args.above.items c.in_ok-put.put.class.0 _ c.in_ok-put.ensures.ok c.in_ok-put.ensures.number.0 c.in_ok-put.ensures.number.1 c.requires

pub returns-in-Ok-clause-tells : goal.returns-in-Ok-clause-tells
returns-in-Ok-clause-tells c = λ k.
    (placed_own c.args.definitions.now c.put.new.self c.args.lists.now c.place.new.self c.in_ok-put.put.class.0 c.in_ok-copy.field-0 c.args.name.now (numbers c.in-Ok.changed.items) c.args.above.items c.args.has_shared_slots c.must_be_complete-whole.result c.in_ok-copy.ensures c.len-rows.ensures.rows c.in_ok-put.ensures.ok c.in_ok-put.ensures.number.0
    (c.must_be_complete-whole.ensures ∙ ap (λ ks. c.args.has_shared_slots || not (is_lacking (listing_at ks c.in_ok-put.put.class.0))) c.as_slice.ensures)
    (λ ds e m. (c.in-Ok.ensures.tells ds e m, c.in-Ok.ensures.well ds e m, c.in-Ok.ensures.changed ds e m)) k).0

pub returns-in-Ok-clause-well : goal.returns-in-Ok-clause-well
returns-in-Ok-clause-well c = λ k.
    (placed_own c.args.definitions.now c.put.new.self c.args.lists.now c.place.new.self c.in_ok-put.put.class.0 c.in_ok-copy.field-0 c.args.name.now (numbers c.in-Ok.changed.items) c.args.above.items c.args.has_shared_slots c.must_be_complete-whole.result c.in_ok-copy.ensures c.len-rows.ensures.rows c.in_ok-put.ensures.ok c.in_ok-put.ensures.number.0
    (c.must_be_complete-whole.ensures ∙ ap (λ ks. c.args.has_shared_slots || not (is_lacking (listing_at ks c.in_ok-put.put.class.0))) c.as_slice.ensures)
    (λ ds e m. (c.in-Ok.ensures.tells ds e m, c.in-Ok.ensures.well ds e m, c.in-Ok.ensures.changed ds e m)) k).1

pub returns-in-Ok-clause-consistent : goal.returns-in-Ok-clause-consistent
returns-in-Ok-clause-consistent c = λ k s.
    placed_consistent c.args.definitions.now c.put.new.self c.in_ok-copy.field-0 c.args.name.now c.args.above.items (c.args.has_shared_slots || not (is_lacking (listing c.args.definitions.now (number_of c.args.definitions.now c.args.name.now)))) c.in_ok-copy.ensures c.len-rows.ensures.rows c.in_ok-put.ensures.ok
    (returns-in-Ok-clause-well c k) s

pub returns-in-Ok-clause-changed : goal.returns-in-Ok-clause-changed
returns-in-Ok-clause-changed c = λ k.
    (placed_own c.args.definitions.now c.put.new.self c.args.lists.now c.place.new.self c.in_ok-put.put.class.0 c.in_ok-copy.field-0 c.args.name.now (numbers c.in-Ok.changed.items) c.args.above.items c.args.has_shared_slots c.must_be_complete-whole.result c.in_ok-copy.ensures c.len-rows.ensures.rows c.in_ok-put.ensures.ok c.in_ok-put.ensures.number.0
    (c.must_be_complete-whole.ensures ∙ ap (λ ks. c.args.has_shared_slots || not (is_lacking (listing_at ks c.in_ok-put.put.class.0))) c.as_slice.ensures)
    (λ ds e m. (c.in-Ok.ensures.tells ds e m, c.in-Ok.ensures.well ds e m, c.in-Ok.ensures.changed ds e m)) k).2

pub returns-in-Err-clause-fault : goal.returns-in-Err-clause-fault
returns-in-Err-clause-fault c = λ k.
    found_wrong_own c.args.definitions.now c.put.new.self c.args.lists.now c.in_ok-put.put.class.0 c.in_ok-copy.field-0 c.args.name.now c.args.above.items c.args.has_shared_slots c.must_be_complete-whole.result (Refuses c.in-Err.fault) c.in_ok-copy.ensures c.len-rows.ensures.rows c.in_ok-put.ensures.ok c.in_ok-put.ensures.number.0
    (c.must_be_complete-whole.ensures ∙ ap (λ ks. c.args.has_shared_slots || not (is_lacking (listing_at ks c.in_ok-put.put.class.0))) c.as_slice.ensures)
    c.in-Err.ensures.fault k
