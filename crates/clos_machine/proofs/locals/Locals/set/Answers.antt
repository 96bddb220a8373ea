use Rattle.std.proofs.Common.{◌≡◌, ◌-◌, ◌<◌, suc, drop, get_or, length, arith, sym, subst, ap, ◌∙◌, reverse, map, None, List, ℕ, set, is_some, true}
use Rattle.lisp_data.specs.Name.{same_name}
use Rattle.lisp_data.specs.ValueView.{value_of}
use Rattle.clos_meaning.specs.Assignment.{with_local}
use Rattle.clos_meaning.specs.clos_world.World.{local_named}
use Rattle.clos_machine.specs.LocalsView.{AreApart, local_of}
use Rattle.clos_machine.specs.declared.locals.Denotation.TheVariants.{Held}
use Rattle.clos_machine.specs.declared.locals.Local.{Local}
use Rattle.clos_machine.proofs.Apart.{apart_set}
use Rattle.clos_machine.proofs.Lists.{other_at, this_at, same_at}
use Rattle.clos_machine.proofs.locals.Locals.set.Goals as goal

pub loop-place-preserved : goal.loop-place-preserved
loop-place-preserved c =
    let items : List Local = c.loop-place.self-inside.locals.items in
    let place : ℕ = c.loop-place.place - 1 in
    let within : place < length items = omega (arith, c.loop-place.invariant.1, c.loop-place-test.true) in
    let next : c.loop-place.place ≡ suc place = omega (arith, c.loop-place-test.true) in
    let at : get_or items place c.index.result.now ≡ c.index.result.now = sym c.index.ensures in (
      c.loop-place.invariant.0,
      omega (arith, within),
      other_at c.args.name.now items place c.index.result.now within at (sym c.is.ensures.test ∙ c.if-is.false)
          (subst (λ i. local_named (reverse (map local_of (drop i items))) c.args.name.now ≡ None) next c.loop-place.invariant.2),
    )

pub returns-then-is : goal.returns-then-is
returns-then-is c =
    let items : List Local = c.loop-place.self-inside.locals.items in
    let place : ℕ = c.loop-place.place - 1 in
    let within : place < length items = omega (arith, c.loop-place.invariant.1, c.loop-place-test.true) in
    let next : c.loop-place.place ≡ suc place = omega (arith, c.loop-place-test.true) in
    let at : get_or items place c.index.result.now ≡ c.index.result.now = sym c.index.ensures in
    let there : get_or items place c.index_mut.result.now ≡ c.index_mut.result.now = sym c.index_mut.ensures.value in
    let named : same_name c.index_mut.result.now.name c.args.name.now ≡ true =
    ap (λ l. same_name l.name c.args.name.now) (same_at items place c.index_mut.result.now c.index.result.now within there at)
    ∙ sym c.is.ensures.test ∙ c.if-is.true in
    subst (λ ls. (is_some (local_named ls c.args.name.now) ≡ true)
    × (reverse (map local_of (set items place (record c.index_mut.result.now { denotation = Held c.args.value }))) ≡ with_local c.args.name.now (value_of c.args.value) ls))
    (ap (λ s. reverse (map local_of s.locals.items)) c.loop-place.invariant.0 ∙ c.self.view_is)
    (this_at c.args.name.now items place c.index_mut.result.now c.args.value within there named
    (subst (λ i. local_named (reverse (map local_of (drop i items))) c.args.name.now ≡ None) next c.loop-place.invariant.2))

pub invariant_of-self-then-is : goal.invariant_of-self-then-is
invariant_of-self-then-is c = λ h.
    let items : List Local = c.loop-place.self-inside.locals.items in
    let place : ℕ = c.loop-place.place - 1 in
    let within : place < length items = omega (arith, c.loop-place.invariant.1, c.loop-place-test.true) in
    let next : c.loop-place.place ≡ suc place = omega (arith, c.loop-place-test.true) in
    let at : get_or items place c.index.result.now ≡ c.index.result.now = sym c.index.ensures in
    let there : get_or items place c.index_mut.result.now ≡ c.index_mut.result.now = sym c.index_mut.ensures.value in
    let named : same_name c.index_mut.result.now.name c.args.name.now ≡ true =
    ap (λ l. same_name l.name c.args.name.now) (same_at items place c.index_mut.result.now c.index.result.now within there at)
    ∙ sym c.is.ensures.test ∙ c.if-is.true in
    subst AreApart
    (sym (this_at c.args.name.now items place c.index_mut.result.now c.args.value within there named
    (subst (λ i. local_named (reverse (map local_of (drop i items))) c.args.name.now ≡ None) next c.loop-place.invariant.2)).1)
    (apart_set c.args.name.now (value_of c.args.value) (reverse (map local_of items))
    (subst (λ s. s.apart ≡ true → AreApart (reverse (map local_of s.locals.items))) (sym c.loop-place.invariant.0) c.self.invariant h))
