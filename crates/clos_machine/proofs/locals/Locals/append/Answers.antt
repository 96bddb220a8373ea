use Rattle.std.proofs.Common.{◌++◌, map, reverse, subst, sym}
use Rattle.clos_machine.specs.LocalsView.{AreApart, local_of}
use Rattle.clos_machine.proofs.Apart.{apart_appended}
use Rattle.clos_machine.proofs.locals.Locals.append.Goals as goal

pub invariant_of-self-2 : goal.invariant_of-self-2
invariant_of-self-2 c = λ h.
    subst (λ l. AreApart (reverse (map local_of l))) (sym c.in_ok-append.ensures.items)
    (apart_appended c.self.inside.locals.items c.more.inside.locals.items
    (subst (λ l. AreApart (reverse (map local_of c.more.inside.locals.items) ++ l)) (sym c.self.view_is)
    (subst (λ l. AreApart (l ++ c.args.self.now)) (sym c.more.view_is) (c.stay_apart-apart.ensures h))))
