use Rattle.std.proofs.Common.{◌≡◌, ◌++◌, length, map}
use Rattle.clos_forms.specs.BoundView.{bound}
use Rattle.clos_machine.proofs.locals.Plan.new.Given as goal

abbrev pub invariant-loop-last : goal.invariant-loop-last
invariant-loop-last l = map bound l.rest ++ l.plan ≡ map bound l.fn.bindings

abbrev pub decreases-loop-last : goal.decreases-loop-last
decreases-loop-last l = length l.rest
