use Rattle.std.proofs.Common.{◌≡◌, ◌-◌, ◌<◌, suc, ℕ, None, List, drop, length, get_or, arith, map, reverse, sym, subst, ◌∙◌}
use Rattle.clos_meaning.specs.clos_world.World.{local_named}
use Rattle.clos_machine.specs.LocalsView.{AreOthers, denoted_of, local_of}
use Rattle.clos_machine.specs.declared.locals.Local.{Local}
use Rattle.clos_machine.proofs.Apart.{none_found, one_other}
use Rattle.clos_machine.proofs.locals.Locals.lacks.Goals as goal

pub loop-place-preserved : goal.loop-place-preserved
loop-place-preserved c =
    let items : List Local = c.more.inside.locals.items in
    let place : ℕ = c.loop-place.place - 1 in
    let within : place < length items = omega (arith, c.loop-place.invariant.0, c.loop-place-test.true) in
    let next : c.loop-place.place ≡ suc place = omega (arith, c.loop-place-test.true) in
    let at : get_or items place c.index.result.now ≡ c.index.result.now = sym c.index.ensures in
    let none : local_named c.args.self.now c.index.result.now.name ≡ None =
    none_found (λ d. denoted_of d.now) c.get.result (local_named c.args.self.now c.index.result.now.name) c.get.ensures (sym c.is_some.ensures ∙ c.if-is_some.false) in (
      omega (arith, within),
      one_other c.args.self.now items place c.index.result.now within at none
          (subst (λ i. AreOthers (reverse (map local_of (drop i items))) c.args.self.now) next c.loop-place.invariant.1),
    )
