use Rattle.std.proofs.Common.{◌≡◌, ◌∷◌, ◌++◌, append_assoc, ap, rules, subst, sym, ◌∙◌}
use Rattle.std.specs.Prelude.{option_to_list}
use Rattle.clos_cache.specs.Cache.{found, left_after}
use Rattle.clos_generic.specs.Table.{Table, with_method}
use Rattle.clos_definition.specs.Effect.{AdditionsFit, of_added, of_addition, of_additions}
use Rattle.clos_definition.proofs.effect.add_all.Goals as goal

pub add-requires-clause-specialized : goal.add-requires-clause-specialized
add-requires-clause-specialized c =
    let all = c.pop_front.ensures.items ∙ ap (λ o. option_to_list o ++ c.pop_front.new.self.items) c.in-Some.is in
    (subst (λ l. AdditionsFit l c.loop-method.generics.table) all c.loop-method.invariant.fit).0

pub add-requires-clause-fits : goal.add-requires-clause-fits
add-requires-clause-fits c =
    let all = c.pop_front.ensures.items ∙ ap (λ o. option_to_list o ++ c.pop_front.new.self.items) c.in-Some.is in
    (subst (λ l. AdditionsFit l c.loop-method.generics.table) all c.loop-method.invariant.fit).1

pub loop-method-preserved : goal.loop-method-preserved
loop-method-preserved c =
    let m = c.in-Some.method in
    let ms = c.pop_front.new.self.items in
    let t = c.loop-method.generics.table in
    let old = c.loop-method.notices.items in
    let all : c.loop-method.methods.items ≡ m ∷ ms = c.pop_front.ensures.items ∙ ap (λ o. option_to_list o ++ ms) c.in-Some.is in
    let table = ap (λ h. h.table) c.add.ensures.added in
    record {
      seen = search rules;
      ready = search rules;
      fit = subst (λ (x : Table). AdditionsFit ms x) (sym table) (subst (λ l. AdditionsFit l t) all c.loop-method.invariant.fit).2;
      told = ap (λ x. x ++ of_additions ms c.add.new.generics.table) c.add.ensures.told
          ∙ ap (λ x. (old ++ of_addition m t) ++ of_additions ms x) table
          ∙ append_assoc old (of_addition m t) (of_additions ms (with_method m.generic.0 m t))
          ∙ ap (λ x. old ++ of_additions x t) (sym all) ∙ c.loop-method.invariant.told;
      room = search rules;
      kept = λ classes cs h. c.add.ensures.kept classes cs (c.loop-method.invariant.kept classes cs h);
      left = λ key. ap (left_after (of_added ms) key) (c.add.ensures.left key)
          ∙ ap (λ x. left_after (of_added x) key (found c.loop-method.cache key)) (sym all) ∙ c.loop-method.invariant.left key;
    }
