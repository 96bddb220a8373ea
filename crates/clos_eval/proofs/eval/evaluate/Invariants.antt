use Rattle.clos_machine.specs.clos_meaning.Meaning.{evaluation}
use Rattle.clos_machine.specs.Machine.{weight}
use Rattle.clos_eval.proofs.Looping.{Came}
use Rattle.clos_eval.proofs.eval.evaluate.Given as goal

abbrev pub invariant-loop-doing : goal.invariant-loop-doing
invariant-loop-doing g l =
    Came (g.N.Natives.host l.fn.natives) (evaluation l.fn.room l.fn.form) l.fn.world l.fn.steps l.fn.answers.items l.machine l.doing
    l.world l.steps l.answers.items

abbrev pub decreases-loop-doing : goal.decreases-loop-doing
decreases-loop-doing g l = weight l.steps l.machine l.doing
