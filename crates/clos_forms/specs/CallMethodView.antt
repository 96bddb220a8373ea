-- The methods that the code's stand for.
use Rattle.std.specs.Prelude.{ℕ, List, [], Option, Some, None, drop, map}
use Rattle.std.specs.declared.alloc.Global.{Global}
use Rattle.std.specs.declared.rc.Rc.{Rc}
use Rattle.std.specs.declared.vec.Vec.{Vec}
use Rattle.clos_forms.specs.Operator.{Callable, the_method, made}
use Rattle.clos_forms.specs.declared.call_method.CalledMethod.{CalledMethod}
use Rattle.clos_forms.specs.declared.call_method.CalledMethod.TheVariants.{Method, Made}

-- a method by the number in its id, or one that is made of a form
abbrev pub callable : CalledMethod → Callable
callable (Method id) = the_method id.0
callable Made = made

-- those of some methods that are left from a place on
abbrev pub callables_in : Option (Rc (Vec CalledMethod Global) Global) → ℕ → List Callable
callables_in None from = []
callables_in (Some methods) from = map callable (drop from methods.value.items)
