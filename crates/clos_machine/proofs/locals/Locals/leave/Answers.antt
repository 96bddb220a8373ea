use Rattle.std.proofs.Common.{map, reverse, subst, sym}
use Rattle.clos_machine.specs.LocalsView.{AreApart, local_of}
use Rattle.clos_machine.proofs.Apart.{apart_left}
use Rattle.clos_machine.proofs.locals.Locals.leave.Goals as goal

pub invariant_of-self : goal.invariant_of-self
invariant_of-self c = λ h.
    subst (λ l. AreApart (reverse (map local_of l))) (sym c.truncate.ensures.items) (apart_left c.args.outer c.self.inside.locals.items (c.self.invariant h))
