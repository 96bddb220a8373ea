use Rattle.std.proofs.Common.{ap, rules, sym, ◌∙◌}
use Rattle.clos_cache.specs.Cache.{found, left_after}
use Rattle.clos_definition.specs.Effect.{of_removed}
use Rattle.clos_definition.proofs.effect.take_out_all.Goals as goal

pub loop-removal-preserved : goal.loop-removal-preserved
loop-removal-preserved c = record {
  table = search rules;
  kept = λ classes cs h. c.take_out.ensures.kept classes cs (c.loop-removal.invariant.kept classes cs h);
  left = λ key. ap (left_after (of_removed c.in-Some.others.now) key) (c.take_out.ensures.left key)
      ∙ ap (λ l. left_after (of_removed l) key (found c.loop-removal.cache key)) (sym c.in-Some.ensures.cases.0) ∙ c.loop-removal.invariant.left key;
}
