use Rattle.std.proofs.Common.{◌≡◌, take, map}
use Rattle.lisp_data.specs.Print.{on_class}
use Rattle.clos_method.proofs.system.SystemFunction.specializers.Given as goal

abbrev pub invariant-loop-class : goal.invariant-loop-class
invariant-loop-class l = l.specializers ≡ map on_class (map (λ c. c.0) (take l.class-index l.class-items))
