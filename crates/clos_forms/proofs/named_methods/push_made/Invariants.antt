use Rattle.std.proofs.Common.{◌≡◌, ◌++◌, drop, map}
use Rattle.clos_forms.specs.NamedMethods.{made_parts}
use Rattle.clos_forms.specs.NamedMethodsView.{named_of}
use Rattle.clos_forms.specs.PartView.{part_of}
use Rattle.clos_forms.proofs.named_methods.push_made.Given as goal

abbrev pub invariant-loop-method : goal.invariant-loop-method
invariant-loop-method l =
    map part_of l.parts.items ++ made_parts (map named_of (drop l.method-index l.methods)) ≡ map part_of l.fn.parts.items ++ made_parts (map named_of l.methods)
