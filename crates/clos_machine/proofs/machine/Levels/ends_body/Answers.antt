use Rattle.std.proofs.Common.{◌-◌, None, Some, ap, length, ◌∙◌}
use Rattle.std.specs.Prelude.{slice_get}
use Rattle.clos_machine.specs.Machine.{ends_body}
use Rattle.clos_machine.proofs.Tails.{end_on_top}
use Rattle.clos_machine.proofs.machine.Levels.ends_body.Goals as goal

pub returns-in-None : goal.returns-in-None
returns-in-None c =
    end_on_top c.self.inside.levels.items None (c.in-None.ensures.value ∙ ap (λ ls. slice_get ls (length ls - 1)) c.deref.ensures.value)
    ∙ ap ends_body c.self.view_is

pub returns-in-Some : goal.returns-in-Some
returns-in-Some c =
    c.is_end.ensures
    ∙ end_on_top c.self.inside.levels.items (Some c.in-Some.level.now)
    (c.in-Some.ensures.value ∙ ap (λ ls. slice_get ls (length ls - 1)) c.deref.ensures.value)
    ∙ ap ends_body c.self.view_is
