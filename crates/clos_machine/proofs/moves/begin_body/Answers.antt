use Rattle.std.proofs.Common.{sym, ◌∙◌}
use Rattle.clos_machine.proofs.Tails.{begun_last}
use Rattle.clos_machine.proofs.moves.begin_body.Goals as goal

pub returns-then-ends_body-clause-leads : goal.returns-then-ends_body-clause-leads
returns-then-ends_body-clause-leads c = λ v w t.
    begun_last c.args.machine.now c.args.next c.args.rest c.args.saved c.args.outer v w (sym c.none_left.ensures ∙ c.if-none_left.true)
    (sym c.ends_body.ensures ∙ c.if-ends_body.true) t
