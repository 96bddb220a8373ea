use Rattle.std.proofs.Common.{ap, ◌∙◌}
use Rattle.clos_precedence.specs.PrecedenceView.{numbers}
use Rattle.clos_hierarchy.specs.inner.Touched.{is_touched}
use Rattle.clos_hierarchy.proofs.touched.touched.Goals as goal

pub returns : goal.returns
returns c = record {
  woken = numbers c.in_ok-woken.woken.items;
  within = c.in_ok-woken.ensures.within;
  waited = c.in_ok-woken.ensures.waited;
  sleep = c.in_ok-woken.ensures.all;
  members = λ n. c.in_ok-touched.ensures.members n ∙ ap (λ v. is_touched c.args.kept.now (numbers v) c.args.below.now c.args.class.0 n) c.as_slice.ensures.value;
  ordered = c.in_ok-touched.ensures.ordered;
}
