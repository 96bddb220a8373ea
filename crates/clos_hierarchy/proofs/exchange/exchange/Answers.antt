use Rattle.std.proofs.Common.{◌<◌, ap, arith, length, sym, ◌∙◌}
use Rattle.std.specs.Prelude.{slice_index_or}
use Rattle.clos_hierarchy.proofs.Exchanged.{exchanges_on, place_within}
use Rattle.clos_hierarchy.proofs.exchange.exchange.Goals as goal

pub index_mut-requires-in-loop-index : goal.index_mut-requires-in-loop-index
index_mut-requires-in-loop-index c =
    let p : (slice_index_or c.args.places.now c.loop-index.index (record { 0 = 0 })).0 < length c.loop-index.kept.items =
    place_within c.args.places.now c.loop-index.index (record { 0 = 0 }) (length c.args.kept.now.items) (length c.loop-index.kept.items) c.loop-index-test.true c.requires.within c.loop-index.invariant.same in
    omega (arith, p)

pub loop-index-preserved : goal.loop-index-preserved
loop-index-preserved c =
    exchanges_on c.args.places.now c.args.others.now.items c.args.kept.now.items c.loop-index.others.items c.loop-index.kept.items c.loop-index.index (record { 0 = 0 }) c.replace-other.new.dest
    c.replace-other.result c.replace.result c.index_mut-in-loop-index.result.now c.replace.new.dest c.loop-index.invariant c.loop-index-test.true
    (place_within c.args.places.now c.loop-index.index (record { 0 = 0 }) (length c.args.kept.now.items) (length c.loop-index.kept.items) c.loop-index-test.true c.requires.within c.loop-index.invariant.same)
    (c.replace-other.ensures.value ∙ c.index_mut.ensures.value ∙ ap (slice_index_or c.loop-index.others.items c.loop-index.index) (sym c.replace-other.ensures.value)) c.index_mut-in-loop-index.ensures.value c.replace.ensures.value c.replace.ensures.after
