use Rattle.std.proofs.Common.{◌≡◌, true, refl, ap, subst, sym, ◌∙◌}
use Rattle.std.specs.List.{list_any}
use Rattle.lisp_data.specs.Name.{Name, same_name}
use Rattle.clos_precedence.specs.Precedence.{has}
use Rattle.clos_precedence.specs.PrecedenceView.{numbers}
use Rattle.clos_hierarchy.specs.Classes.{list_in}
use Rattle.clos_hierarchy.specs.inner.Direct.{directly_below}
use Rattle.clos_hierarchy.specs.inner.KeptView.{listing_at}
use Rattle.clos_hierarchy.specs.inner.Told.{Tells, told}
use Rattle.clos_hierarchy.specs.inner.Touched.{AreNoted, others_among}
use Rattle.clos_hierarchy.proofs.Placed.{as_long, noted_now, noted_still, tells_now, tells_still}
use Rattle.clos_hierarchy.proofs.Placing.{changed_of}
use Rattle.clos_hierarchy.proofs.lists.Lists.place.Goals as goal

pub invariant_of-self-in-Ok-1 : goal.invariant_of-self-in-Ok-1
invariant_of-self-in-Ok-1 c =
    noted_now c.self.inside.below c.settle.new.below c.self.inside.kept.items c.place.new.kept.items (numbers c.in_ok-replaced.replaced.places.items) c.self.invariant c.settle.ensures.grows c.in_ok-replaced.ensures.replaced.others
    (λ n m h g. c.in-Ok.ensures.noted n m (subst (λ v. has (numbers v) n ≡ true) (sym c.as_slice.ensures.value) h) (subst (λ v. has (list_in (listing_at v n)) m ≡ true) (sym c.as_slice-3.ensures.value) g))

pub invariant_of-self-in-Err : goal.invariant_of-self-in-Err
invariant_of-self-in-Err c =
    subst (λ v. AreNoted c.settle.new.below v)
    (sym (c.put_back.ensures.back c.args.class.0 c.self.inside.kept.items c.in_ok-replaced.ensures.replaced (sym (as_long c.self.inside.kept c.len-len.result c.len-len.ensures))))
    (noted_still c.self.inside.below c.settle.new.below c.self.inside.kept.items c.self.invariant c.settle.ensures.grows)

pub returns-in-Ok-clause-tells : goal.returns-in-Ok-clause-tells
returns-in-Ok-clause-tells c = λ cs k m.
    let was : Tells cs (told c.self.inside.kept.items c.self.inside.direct) = subst (Tells cs) (sym c.self.view_is) k in
    let given : Tells cs (told c.self.inside.kept.items c.add.new.self) = tells_still cs c.self.inside.kept.items c.self.inside.kept.items c.self.inside.direct c.add.new.self refl c.in_ok-add.ensures.spreads was in
    tells_now cs c.args.definitions.now c.self.inside.kept.items c.place.new.kept.items c.self.inside.direct c.add.new.self c.args.class.0 c.args.name.now c.args.whole was m c.in_ok-add.ensures.spreads
    (subst (λ v. (y : Name) → list_any (same_name y) v ≡ true → has (directly_below c.add.new.self y) c.args.class.0 ≡ true) c.above.ensures c.in_ok-add.ensures.added)
    (c.in_ok-replaced.ensures.knows cs given m) (c.in_ok-replaced.ensures.well cs given m)

pub returns-in-Ok-clause-well : goal.returns-in-Ok-clause-well
returns-in-Ok-clause-well c = λ cs k m.
    let was : Tells cs (told c.self.inside.kept.items c.self.inside.direct) = subst (Tells cs) (sym c.self.view_is) k in
    c.in_ok-replaced.ensures.well cs (tells_still cs c.self.inside.kept.items c.self.inside.kept.items c.self.inside.direct c.add.new.self refl c.in_ok-add.ensures.spreads was) m

pub returns-in-Ok-clause-changed : goal.returns-in-Ok-clause-changed
returns-in-Ok-clause-changed c = λ cs k m.
    let was : Tells cs (told c.self.inside.kept.items c.self.inside.direct) = subst (Tells cs) (sym c.self.view_is) k in
    let given : Tells cs (told c.self.inside.kept.items c.add.new.self) = tells_still cs c.self.inside.kept.items c.self.inside.kept.items c.self.inside.direct c.add.new.self refl c.in_ok-add.ensures.spreads was in
    changed_of c.in_ok-replaced.replaced.places.items c.args.class.0 c.in_ok-replaced.replaced.olds.items c.self.inside.kept.items c.place.new.kept.items (numbers c.in-Ok.changed.items)
    c.in_ok-replaced.ensures.replaced
    (c.in-Ok.ensures.changed ∙ ap (λ v. others_among v c.as_slice-2.result.now c.as_slice-3.result.now) c.as_slice.ensures.value
    ∙ ap (λ v. others_among c.in_ok-replaced.replaced.places.items v c.as_slice-3.result.now) c.as_slice-2.ensures.value
    ∙ ap (λ v. others_among c.in_ok-replaced.replaced.places.items c.in_ok-replaced.replaced.olds.items v) c.as_slice-3.ensures.value)
    cs c.args.definitions.now was.knows (c.in_ok-replaced.ensures.knows cs given m)

pub returns-in-Err-clause-err : goal.returns-in-Err-clause-err
returns-in-Err-clause-err c = λ cs k.
    tells_still cs c.self.inside.kept.items c.put_back.new.kept.items c.self.inside.direct c.add.new.self
    (c.put_back.ensures.back c.args.class.0 c.self.inside.kept.items c.in_ok-replaced.ensures.replaced (sym (as_long c.self.inside.kept c.len-len.result c.len-len.ensures)))
    c.in_ok-add.ensures.spreads (subst (Tells cs) (sym c.self.view_is) k)
