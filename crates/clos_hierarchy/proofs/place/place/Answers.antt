use Rattle.std.proofs.Common.{ap, subst, sym, take, ◌∙◌}
use Rattle.clos_precedence.specs.PrecedenceView.{numbers}
use Rattle.clos_hierarchy.specs.TableView.{Refuses}
use Rattle.clos_hierarchy.specs.inner.Exchange.{Replaces}
use Rattle.clos_hierarchy.proofs.Placed.{IsPlacing, as_long, closes, no_shorter_mid, none_else_mid, placing, progress, replaces, same_mid, taken_back, within_mid}
use Rattle.clos_hierarchy.proofs.Placing.{out_of_order_then}
use Rattle.clos_hierarchy.proofs.place.place.Goals as goal

found : (c : goal.In-Ok) → IsPlacing c.args.definitions.now c.args.kept.now.items c.reach.new.kept.items c.args.below.now c.args.direct.now c.args.class.0 (numbers c.as_slice-2.result.now)
found c =
    placing c.args.definitions.now c.args.kept.now.items c.reach.new.kept.items c.as_slice.result.now c.args.below.now c.args.direct.now c.args.class.0 c.len.result c.in_ok-places.places.items c.as_slice-2.result.now
    c.as_slice-2.ensures.value c.as_slice.ensures.value c.len.ensures.len c.in_ok-reach.ensures.ok c.requires.class c.requires.noted (sym c.in_ok-is_circular.ensures ∙ c.if-branch.false) c.in_ok-places.ensures

refused : (c : goal.After-drop-places-in-Err-1) → IsPlacing c.args.definitions.now c.args.kept.now.items c.reach.new.kept.items c.args.below.now c.args.direct.now c.args.class.0 (numbers c.as_slice-2.result.now)
refused c =
    placing c.args.definitions.now c.args.kept.now.items c.reach.new.kept.items c.as_slice.result.now c.args.below.now c.args.direct.now c.args.class.0 c.len.result c.in_ok-places.places.items c.as_slice-2.result.now
    c.as_slice-2.ensures.value c.as_slice.ensures.value c.len.ensures.len c.in_ok-reach.ensures.ok c.requires.class c.requires.noted (sym c.in_ok-is_circular.ensures ∙ c.if-branch.false) c.in_ok-places.ensures

pub find_well-requires-clause-within : goal.find_well-requires-clause-within
find_well-requires-clause-within c =
    within_mid _ _ _ _ _ _ _
    (placing c.args.definitions.now c.args.kept.now.items c.reach.new.kept.items c.as_slice.result.now c.args.below.now c.args.direct.now c.args.class.0 c.len.result c.in_ok-places.places.items c.as_slice-2.result.now
    c.as_slice-2.ensures.value c.as_slice.ensures.value c.len.ensures.len c.in_ok-reach.ensures.ok c.requires.class c.requires.noted (sym c.in_ok-is_circular.ensures ∙ c.if-branch.false) c.in_ok-places.ensures)

pub find_well-requires-clause-ordered : goal.find_well-requires-clause-ordered
find_well-requires-clause-ordered c =
    (placing c.args.definitions.now c.args.kept.now.items c.reach.new.kept.items c.as_slice.result.now c.args.below.now c.args.direct.now c.args.class.0 c.len.result c.in_ok-places.places.items c.as_slice-2.result.now
    c.as_slice-2.ensures.value c.as_slice.ensures.value c.len.ensures.len c.in_ok-reach.ensures.ok c.requires.class c.requires.noted (sym c.in_ok-is_circular.ensures ∙ c.if-branch.false) c.in_ok-places.ensures).touches.ordered

pub returns-in-Ok-clause-replaced : goal.returns-in-Ok-clause-replaced
returns-in-Ok-clause-replaced c =
    subst (λ v. Replaces (numbers v) c.args.class.0 c.in-Ok.olds.items c.args.kept.now.items c.find_well.new.kept.items) c.as_slice-2.ensures.value
    (replaces _ _ _ _ _ _ _ (found c) c.in-Ok.olds.items c.find_well.new.kept.items c.in-Ok.ensures.taken c.in-Ok.ensures.others)

pub returns-in-Ok-clause-knows : goal.returns-in-Ok-clause-knows
returns-in-Ok-clause-knows c = λ cs k m. c.in-Ok.ensures.knows (progress _ _ _ _ _ _ _ (found c) cs k m) (closes _ _ _ _ _ _ _ (found c) cs k m)

pub returns-in-Ok-clause-well : goal.returns-in-Ok-clause-well
returns-in-Ok-clause-well c = λ cs k m.
    out_of_order_then c.args.definitions.now c.args.class.0 c.args.name.now c.args.whole (sym c.in_ok-is_circular.ensures ∙ c.if-branch.false)
    ∙ c.in-Ok.ensures.well (progress _ _ _ _ _ _ _ (found c) cs k m) (closes _ _ _ _ _ _ _ (found c) cs k m) (none_else_mid _ _ _ _ _ _ _ (found c) k.well)

pub returns-in-Err-clause-err : goal.returns-in-Err-clause-err
returns-in-Err-clause-err c =
    c.truncate.ensures.items ∙ ap (take c.len-len.result) c.in-Err.ensures.err ∙ ap (λ n. take n c.reach.new.kept.items) (as_long c.args.kept.now c.len-len.result c.len-len.ensures)
    ∙ taken_back c.args.kept.now.items c.reach.new.kept.items (no_shorter_mid _ _ _ _ _ _ _ (refused c)) (same_mid _ _ _ _ _ _ _ (refused c))

pub returns-in-Err-clause-fault : goal.returns-in-Err-clause-fault
returns-in-Err-clause-fault c = λ cs k m.
    subst (Refuses c.in-Err.fault) (sym (out_of_order_then c.args.definitions.now c.args.class.0 c.args.name.now c.args.whole (sym c.in_ok-is_circular.ensures ∙ c.if-branch.false)))
    (c.in-Err.ensures.fault (progress _ _ _ _ _ _ _ (refused c) cs k m) (closes _ _ _ _ _ _ _ (refused c) cs k m) (none_else_mid _ _ _ _ _ _ _ (refused c) k.well))
