use Rattle.std.proofs.Common.{◌≡◌, drop}
use Rattle.clos_method.specs.Applicable.{all_fit}
use Rattle.clos_method.specs.Specializer.{specializers_in}
use Rattle.clos_method.proofs.applicable.all_fit.Given as goal

-- they fit where those from the place on do
abbrev pub invariant-loop-place : goal.invariant-loop-place
invariant-loop-place l = all_fit (drop l.place l.arguments) (specializers_in (drop l.place l.specializers)) ≡ all_fit l.arguments (specializers_in l.specializers)
