use Rattle.std.proofs.Common.{ap, ◌∙◌}
use Rattle.clos_world.specs.Globals.{is_global}
use Rattle.clos_world.proofs.Variables.{no_global}
use Rattle.clos_world.proofs.globals.Globals.set.Goals as goal

pub returns-in_err-insert-clause-present : goal.returns-in_err-insert-clause-present
returns-in_err-insert-clause-present c = λ h.
    absurd (no_global c.self.inside.values.entries c.args.name c.in_err-insert.ensures.absent (ap (λ gs. is_global gs c.args.name) c.self.view_is ∙ h))
