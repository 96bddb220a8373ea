use Rattle.clos_hierarchy.proofs.Admitted.{placed_in}
use Rattle.clos_hierarchy.proofs.Listed.{added}
use Rattle.clos_hierarchy.proofs.predefined.add.Goals as goal

pub place-requires : goal.place-requires
place-requires c =
    placed_in c.args.definitions.now c.put.new.self c.fixed.result c.in_ok-above.above.items c.in_ok-put.put.class.0 _ c.in_ok-put.ensures.ok c.in_ok-put.ensures.number.0 c.in_ok-put.ensures.number.1 c.requires.knows.length

pub returns-in-Ok-clause-tells : goal.returns-in-Ok-clause-tells
returns-in-Ok-clause-tells c =
    added c.args.definitions.now c.put.new.self c.args.lists.now c.place.new.self c.in_ok-put.put.class.0 c.fixed.result c.in_ok-above.above.items c.len-rows.ensures.rows c.in_ok-put.ensures.ok c.in_ok-put.ensures.number.0
    c.in-Ok.ensures.tells c.requires
