use Rattle.std.proofs.Common.{◌≡◌, map, rules, subst, sym, ◌∙◌}
use Rattle.clos_watch.specs.Watching.{row_at}
use Rattle.clos_watch.proofs.Places.{same_pushed}
use Rattle.clos_watch.proofs.rows.Rows.reach.Goals as goal

pub loop-alloc-preserved : goal.loop-alloc-preserved
loop-alloc-preserved c = λ n.
    subst (λ rows. row_at (map (λ s. s.keys) rows) n ≡ row_at c.args.self.now n) (sym c.in_ok-push.ensures.items)
    (same_pushed (λ s. s.keys) c.loop-alloc.self-inside.rows.items c.new.result (search rules) n ∙ c.loop-alloc.invariant n)
