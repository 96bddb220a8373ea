use Rattle.std.proofs.Common.{◌≡◌, ◌<◌, ◌+◌, ◌++◌, [], ◌∷◌, length, length-append, ap, arith, subst, sym, ◌∙◌}
use Rattle.std.proofs.lemmas.List.{length-set}
use Rattle.clos_precedence.specs.Precedence.{has}
use Rattle.clos_precedence.specs.PrecedenceView.{numbers}
use Rattle.clos_class.specs.inner.Keeping.{put_each}
use Rattle.clos_class.proofs.Preparing.{has_before, has_end, put_last}
use Rattle.clos_class.proofs.keep.put_each.Goals as goal

pub index_mut-requires : goal.index_mut-requires
index_mut-requires c =
    let l : c.in-Some.class.now.0 < length c.loop-class.kept.items =
    c.loop-class.invariant.within c.in-Some.class.now.0 (ap (λ v. has (numbers v) c.in-Some.class.now.0) c.in-Some.ensures.cases.0 ∙ has_end c.in-Some.others.now c.in-Some.class.now) in
    omega (arith, l)

pub loop-class-preserved : goal.loop-class-preserved
loop-class-preserved c =
    let f : length c.loop-class.found.items ≡ length c.pop.new.self.items + 1 = ap length c.in-Some-pop.ensures.items ∙ length-append c.pop.new.self.items (c.in-Some-pop.last ∷ []) in
    let g : length c.loop-class.left.now ≡ length c.in-Some.others.now + 1 = ap length c.in-Some.ensures.cases.0 ∙ length-append c.in-Some.others.now (c.in-Some.class.now ∷ []) in
    let each : length c.pop.new.self.items ≡ length c.in-Some.others.now = omega (arith, f, g, c.loop-class.invariant.each) in
    record {
      put = sym (put_last c.in-Some.others.now c.in-Some.class.now c.pop.new.self.items c.in-Some-pop.last c.loop-class.kept.items each)
          ∙ ap (λ v. put_each (numbers v) (c.pop.new.self.items ++ c.in-Some-pop.last ∷ []) c.loop-class.kept.items) (sym c.in-Some.ensures.cases.0)
          ∙ ap (λ v. put_each (numbers c.loop-class.left.now) v c.loop-class.kept.items) (sym c.in-Some-pop.ensures.items) ∙ c.loop-class.invariant.put;
      each = each;
      within = λ n h.
          subst (λ l. n < l) (sym (length-set c.loop-class.kept.items c.in-Some.class.now.0 c.in-Some-pop.last))
          (c.loop-class.invariant.within n (ap (λ v. has (numbers v) n) c.in-Some.ensures.cases.0 ∙ has_before c.in-Some.others.now c.in-Some.class.now n h));
    }
