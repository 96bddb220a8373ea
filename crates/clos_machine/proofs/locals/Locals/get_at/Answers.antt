use Rattle.std.proofs.Common.{◌≡◌, ◌<◌, true, Some, List, length, get_or, arith, ap, sym, ◌∙◌, subst}
use Rattle.lisp_data.specs.Name.{same_name}
use Rattle.clos_meaning.specs.clos_world.World.{local_named}
use Rattle.clos_machine.specs.LocalsView.{denoted_of}
use Rattle.clos_machine.specs.declared.locals.Local.{Local}
use Rattle.clos_machine.proofs.Apart.{at_place}
use Rattle.clos_machine.proofs.Lists.{same_at}
use Rattle.clos_machine.proofs.locals.Locals.get_at.Goals as goal

pub returns-then-is : goal.returns-then-is
returns-then-is c =
    let items : List Local = c.self.inside.locals.items in
    let found : Local = c.index-then-is.result.now in
    let within : c.args.place < length items = omega (arith, c.len.ensures, c.if-place-len.true) in
    let at : get_or items c.args.place found ≡ found = sym c.index-then-is.ensures in
    let same : found ≡ c.index.result.now = same_at items c.args.place found c.index.result.now within at (sym c.index.ensures) in
    let named : same_name found.name c.args.name.now ≡ true = ap (λ l. same_name l.name c.args.name.now) same ∙ sym c.is.ensures.test ∙ c.if-is.true in
    subst (λ ls. Some (denoted_of found.denotation) ≡ local_named ls c.args.name.now) c.self.view_is
    (at_place c.args.name.now items c.args.place found within at named (c.self.invariant c.if-self.true))
