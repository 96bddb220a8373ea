use Rattle.std.proofs.Common.{ap, sym, ◌∙◌}
use Rattle.clos_machine.specs.clos_world.World.{seen}
use Rattle.clos_machine.specs.Machine.{at}
use Rattle.clos_machine.specs.clos_meaning.Meaning.{meaning}
use Rattle.clos_control.proofs.Unset.{put_aside, aside_skips}
use Rattle.clos_control.proofs.binding.set_aside.Goals as goal

pub returns-clause-leads : goal.returns-clause-leads
returns-clause-leads c = λ run h.
    c.aside_next.ensures.leads run (λ t.
    sym (aside_skips (meaning c.args.machine.now.room) c.args.machine.now.context c.args.outer c.args.forms.now (at c.args.machine.now (seen c.args.world.now)) t
    c.args.plan c.args.locals
    ∙ ap (put_aside (meaning c.args.machine.now.room) c.args.machine.now.context c.args.outer c.args.forms.now (at c.args.machine.now (seen c.args.world.now)) t)
    c.in_ok-next.ensures) ∙ h t)
