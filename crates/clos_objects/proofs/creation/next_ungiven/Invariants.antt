use Rattle.std.proofs.Common.{◌≡◌, ◌-◌, drop, length, map}
use Rattle.lisp_data.specs.ValueView.{value_of}
use Rattle.clos_objects.specs.Objects.{ungiven}
use Rattle.clos_objects.proofs.creation.next_ungiven.Given as goal

abbrev pub invariant-loop-place : goal.invariant-loop-place
invariant-loop-place l = ungiven (map value_of l.fn.initargs) (drop l.place l.defaults) ≡ ungiven (map value_of l.fn.initargs) (drop l.fn.from l.defaults)

abbrev pub decreases-loop-place : goal.decreases-loop-place
decreases-loop-place l = length l.defaults - l.place
