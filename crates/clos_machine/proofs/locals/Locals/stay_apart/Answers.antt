use Rattle.std.proofs.Common.{subst}
use Rattle.clos_machine.specs.LocalsView.{AreApart}
use Rattle.clos_machine.proofs.Apart.{apart_together}
use Rattle.clos_machine.proofs.locals.Locals.stay_apart.Goals as goal

pub returns : goal.returns
returns c = λ h.
    apart_together c.args.more.now c.args.self.now (subst AreApart c.more.view_is (c.more.invariant c.if-not-more.false))
    (subst AreApart c.self.view_is (c.self.invariant c.if-not-self.false)) (c.lacks.ensures h)
