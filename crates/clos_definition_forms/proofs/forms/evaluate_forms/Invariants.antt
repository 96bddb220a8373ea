use Rattle.std.proofs.Common.{[], length}
use Rattle.clos_eval.specs.Evaluation.{Comes}
use Rattle.clos_definition_forms.specs.Forms.{forms_evaluated}
use Rattle.clos_definition_forms.proofs.forms.evaluate_forms.Given as goal

abbrev pub invariant-loop-form : goal.invariant-loop-form
invariant-loop-form g l =
    Comes (g.N.Natives.host l.fn.natives) (forms_evaluated l.fn.forms []) (forms_evaluated l.left l.values.items) l.initial.world l.initial.steps
    l.initial.answers.items l.world l.steps l.answers.items

abbrev pub decreases-loop-form : goal.decreases-loop-form
decreases-loop-form g l = length l.left
