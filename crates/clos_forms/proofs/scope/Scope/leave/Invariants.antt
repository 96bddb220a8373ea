use Rattle.clos_forms.proofs.scope.Scope.leave.Given as goal

abbrev pub decreases-loop-self : goal.decreases-loop-self
decreases-loop-self l = goal.left-loop-self l
