use Rattle.std.proofs.Common.{map, rules, subst, sym}
use Rattle.clos_hierarchy.specs.inner.Below.{Grows}
use Rattle.clos_hierarchy.proofs.Under.{grows_pushed}
use Rattle.clos_hierarchy.proofs.below.Below.reach.Goals as goal

pub loop-alloc-preserved : goal.loop-alloc-preserved
loop-alloc-preserved c =
    subst (λ rows. Grows c.args.self.now (map (λ s. s.keys) rows)) (sym c.in_ok-push.ensures.items)
    (grows_pushed (λ s. s.keys) c.args.self.now c.loop-alloc.self-inside.rows.items c.new.result (search rules) c.loop-alloc.invariant)
