use Rattle.std.proofs.Common.{◌≡◌, ◌++◌, drop, map}
use Rattle.clos_forms.specs.CallMethodView.{callable}
use Rattle.clos_forms.specs.Effective.{numbers_of}
use Rattle.clos_forms.proofs.effective.push_numbers.Given as goal

abbrev pub invariant-loop-method : goal.invariant-loop-method
invariant-loop-method l =
    map (λ m. m.0) l.methods.items ++ numbers_of (map callable (drop l.method-index l.method-items)) ≡ map (λ m. m.0) l.fn.methods.items ++ numbers_of l.next
