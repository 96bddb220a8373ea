use Rattle.std.proofs.Common.{◌≡◌, ◌<◌, None, ap, length, map, subst, ◌∙◌}
use Rattle.std.specs.Prelude.{not, ◌||◌}
use Rattle.std.proofs.lemmas.Result.{IfErr-weaker, IfOk-weaker}
use Rattle.clos_hierarchy.specs.Classes.{is_lacking, listing}
use Rattle.clos_hierarchy.specs.TableView.{Refuses}
use Rattle.clos_hierarchy.specs.inner.KeptView.{listing_at}
use Rattle.clos_hierarchy.proofs.Admitted.{changed_by, found_wrong_own, placed_in, with_own}
use Rattle.clos_hierarchy.proofs.admit.check_place.Goals as goal

pub preview-found-requires : goal.preview-found-requires
preview-found-requires c =
    placed_in c.args.definitions.now c.put.new.self c.in_ok-copy.field-0 c.args.above.items c.in_ok-put.put.class.0 _ c.in_ok-put.ensures.ok c.in_ok-put.ensures.number.0 c.in_ok-put.ensures.number.1 c.requires

pub returns-clause-ok : goal.returns-clause-ok
returns-clause-ok c =
    IfOk-weaker c.preview-found.result _ _
    (λ r h k.
    found_wrong_own c.args.definitions.now c.put.new.self c.args.lists.now c.in_ok-put.put.class.0 c.in_ok-copy.field-0 c.args.name.now c.args.above.items c.args.has_shared_slots c.must_be_complete-whole.result (λ o. o ≡ None) c.in_ok-copy.ensures c.len-rows.ensures.rows c.in_ok-put.ensures.ok
    c.in_ok-put.ensures.number.0 (c.must_be_complete-whole.ensures ∙ ap (λ ks. c.args.has_shared_slots || not (is_lacking (listing_at ks c.in_ok-put.put.class.0))) c.as_slice.ensures) h k)
    c.preview-found.ensures.well

pub returns-clause-lists : goal.returns-clause-lists
returns-clause-lists c =
    IfOk-weaker c.preview-found.result _ _
    (λ r h k. subst (λ to. r.listings ≡ map (λ n. listing to n) r.touched)
    (with_own c.args.definitions.now c.put.new.self c.in_ok-copy.field-0 c.args.name.now c.args.above.items c.in_ok-copy.ensures c.in_ok-put.ensures.ok)
    (h c.args.definitions.now k (changed_by c.args.definitions.now c.put.new.self c.in_ok-put.put.class.0 c.in_ok-copy.field-0 c.args.above.items c.len-rows.ensures.rows c.in_ok-put.ensures.ok c.in_ok-put.ensures.number.0)))
    c.preview-found.ensures.lists

pub returns-clause-within : goal.returns-clause-within
returns-clause-within c =
    IfOk-weaker c.preview-found.result _ _
    (λ r h k n g. subst (λ to. n < length to.names)
    (with_own c.args.definitions.now c.put.new.self c.in_ok-copy.field-0 c.args.name.now c.args.above.items c.in_ok-copy.ensures c.in_ok-put.ensures.ok)
    (h c.args.definitions.now k (changed_by c.args.definitions.now c.put.new.self c.in_ok-put.put.class.0 c.in_ok-copy.field-0 c.args.above.items c.len-rows.ensures.rows c.in_ok-put.ensures.ok c.in_ok-put.ensures.number.0) n g))
    c.preview-found.ensures.within

pub returns-clause-others : goal.returns-clause-others
returns-clause-others c =
    IfOk-weaker c.preview-found.result _ _
    (λ r h k n g. subst (λ to. listing to n ≡ listing c.args.definitions.now n)
    (with_own c.args.definitions.now c.put.new.self c.in_ok-copy.field-0 c.args.name.now c.args.above.items c.in_ok-copy.ensures c.in_ok-put.ensures.ok)
    (h c.args.definitions.now k (changed_by c.args.definitions.now c.put.new.self c.in_ok-put.put.class.0 c.in_ok-copy.field-0 c.args.above.items c.len-rows.ensures.rows c.in_ok-put.ensures.ok c.in_ok-put.ensures.number.0) n g))
    c.preview-found.ensures.others

pub returns-clause-free : goal.returns-clause-free
returns-clause-free c = IfOk-weaker c.preview-found.result _ _ (λ r h k. h c.args.definitions.now k) c.preview-found.ensures.free

pub returns-clause-fault : goal.returns-clause-fault
returns-clause-fault c =
    IfErr-weaker c.preview-found.result _ _
    (λ e h k.
    found_wrong_own c.args.definitions.now c.put.new.self c.args.lists.now c.in_ok-put.put.class.0 c.in_ok-copy.field-0 c.args.name.now c.args.above.items c.args.has_shared_slots c.must_be_complete-whole.result (Refuses e) c.in_ok-copy.ensures c.len-rows.ensures.rows c.in_ok-put.ensures.ok
    c.in_ok-put.ensures.number.0 (c.must_be_complete-whole.ensures ∙ ap (λ ks. c.args.has_shared_slots || not (is_lacking (listing_at ks c.in_ok-put.put.class.0))) c.as_slice.ensures) h k)
    c.preview-found.ensures.fault
