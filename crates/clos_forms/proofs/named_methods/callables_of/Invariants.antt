use Rattle.std.proofs.Common.{◌≡◌, ◌++◌, drop, map}
use Rattle.clos_forms.specs.CallMethodView.{callable}
use Rattle.clos_forms.specs.NamedMethods.{callables_of}
use Rattle.clos_forms.specs.NamedMethodsView.{named_of}
use Rattle.clos_forms.proofs.named_methods.callables_of.Given as goal

abbrev pub invariant-loop-method : goal.invariant-loop-method
invariant-loop-method l =
    map callable l.called.items ++ callables_of (map named_of (drop l.method-index l.methods)) ≡ callables_of (map named_of l.methods)
