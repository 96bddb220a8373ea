use Rattle.std.proofs.Common.{ap, rules, subst, sym, ◌∙◌}
use Rattle.clos_cache.specs.Cache.{found, left_after}
use Rattle.clos_generic.specs.Changes.{Changes}
use Rattle.clos_generic.specs.Table.{Table, with_definition}
use Rattle.clos_definition.specs.Effect.{DefinitionsFit, of_defined}
use Rattle.clos_definition.proofs.effect.define_all.Goals as goal

pub define-requires-clause-orderly : goal.define-requires-clause-orderly
define-requires-clause-orderly c =
    (subst (λ (x : Changes). DefinitionsFit x.definitions c.loop-definition.generics.table) c.in-Some.ensures
    c.loop-definition.invariant.fit).0

pub define-requires-clause-fit : goal.define-requires-clause-fit
define-requires-clause-fit c =
    (subst (λ (x : Changes). DefinitionsFit x.definitions c.loop-definition.generics.table) c.in-Some.ensures
    c.loop-definition.invariant.fit).1

pub loop-definition-preserved : goal.loop-definition-preserved
loop-definition-preserved c = record {
  seen = search rules;
  ready = search rules;
  fit = subst (λ (t : Table). DefinitionsFit c.take_definition.new.self.definitions t) (sym (ap (λ h. h.table) c.define.ensures.defined))
      (subst (λ (x : Changes). DefinitionsFit x.definitions c.loop-definition.generics.table) c.in-Some.ensures
      c.loop-definition.invariant.fit).2;
  additions = search rules;
  kept = λ classes cs h. c.define.ensures.kept classes cs (c.loop-definition.invariant.kept classes cs h);
  left = λ key.
      ap (λ t. left_after (of_defined c.take_definition.new.self.definitions t) key (found c.define.new.cache key)) (ap (λ h. h.table) c.define.ensures.defined)
      ∙ ap (left_after (of_defined c.take_definition.new.self.definitions (with_definition c.in-Some.definition.name c.in-Some.definition.options c.loop-definition.generics.table)) key)
      (c.define.ensures.left key)
      ∙ ap (λ (x : Changes). left_after (of_defined x.definitions c.loop-definition.generics.table) key (found c.loop-definition.cache key))
      (sym c.in-Some.ensures)
      ∙ c.loop-definition.invariant.left key;
}
