use Rattle.std.proofs.Common.{ap, map, Some, ◌∙◌}
use Rattle.lisp_data.specs.ValueView.{value_of}
use Rattle.clos_world.specs.World.{seen}
use Rattle.clos_world.proofs.Kept.{hit_methods, hit_outcome, kept_after}
use Rattle.clos_world.proofs.tables.World.effective_method.Goals as goal

pub returns-in-Some-clause-methods : goal.returns-in-Some-clause-methods
returns-in-Some-clause-methods c =
    hit_methods (seen c.args.self.now) c.args.id.0 (map value_of c.args.values.now) c.args.self.now.cache c.in_ok-key.key
    c.in_ok-clone.field-0.value c.args.self.now.kept c.in_ok-key.ensures (ap Some c.in_ok-clone.ensures.cases ∙ c.in-Some.ensures)

pub returns-in-Some-clause-outcome : goal.returns-in-Some-clause-outcome
returns-in-Some-clause-outcome c =
    hit_outcome (seen c.args.self.now) c.args.id.0 (map value_of c.args.values.now) c.args.self.now.cache c.in_ok-key.key
    c.in_ok-clone.field-0.value c.args.self.now.kept c.in_ok-key.ensures (ap Some c.in_ok-clone.ensures.cases ∙ c.in-Some.ensures)

pub invariant_of-self : goal.invariant_of-self
invariant_of-self c = record {
  kept = kept_after (seen c.args.self.now) (seen c.worked_out.new.self) c.worked_out.ensures.same c.args.id.0 (map value_of c.args.values.now)
      c.worked_out.new.self.cache c.keep.new.self c.in_ok-key.key (record { combination = c.in_ok-combination.combination; outcome = c.in_ok-found.found.value })
      c.keep.result c.keep.ensures.ok c.keep.ensures.err c.worked_out.new.self.kept c.in_ok-key.ensures
      c.in_ok-combination.ensures c.in_ok-found.ensures.methods c.in_ok-found.ensures.outcome;
}
