use Rattle.std.proofs.Common.{subst}
use Rattle.clos_hierarchy.proofs.Naming.{IsNaming, naming_next}
use Rattle.clos_hierarchy.proofs.direct.Direct.add.Goals as goal

pub loop-name-preserved : goal.loop-name-preserved
loop-name-preserved c =
    naming_next c.args.self.now c.loop-name.self c.note.new.self c.args.class.0 c.in-Some.name.now c.args.above.now c.in-Some.others.now
    (subst (IsNaming c.args.self.now c.loop-name.self c.args.class.0 c.args.above.now) c.in-Some.ensures.cases.0 c.loop-name.invariant) c.in_ok-note.ensures.spreads c.in_ok-note.ensures.noted
