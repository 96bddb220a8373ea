use Rattle.std.proofs.Common.{ap, sym}
use Rattle.clos_precedence.specs.Precedence.{has}
use Rattle.clos_precedence.specs.PrecedenceView.{numbers}
use Rattle.clos_hierarchy.proofs.Ascending.{merges_next}
use Rattle.clos_hierarchy.proofs.touched.add_all.Goals as goal

pub loop-class-preserved : goal.loop-class-preserved
loop-class-preserved c =
    merges_next c.args.places.now.items c.loop-class.places.items c.push.new.self.items (has (numbers c.args.classes.now)) (has (numbers c.loop-class.left.now)) (has (numbers c.in-Some.others.now))
    c.in-Some.class.now.0 c.loop-class.invariant c.in_ok-push.ensures.items (λ n. ap (λ cs. has (numbers cs) n) (sym c.in-Some.ensures.cases.0))
