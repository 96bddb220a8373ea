use Rattle.std.proofs.Common.{◌≡◌, ◌++◌, drop, map}
use Rattle.clos_forms.specs.Binding.{bounds_of}
use Rattle.clos_forms.specs.BindingView.{entry_of}
use Rattle.clos_forms.specs.BoundView.{bound}
use Rattle.clos_forms.proofs.binding.bindings_of.Given as goal

abbrev pub invariant-loop-entry : goal.invariant-loop-entry
invariant-loop-entry l = map bound l.bindings.items ++ bounds_of (map entry_of (drop l.entry-index l.entries)) ≡ bounds_of (map entry_of l.entries)
