use Rattle.std.proofs.Common.{◌≡◌, ◌++◌, drop, map}
use Rattle.clos_forms.specs.Binding.{names_of}
use Rattle.clos_forms.specs.BindingView.{entry_of}
use Rattle.clos_forms.proofs.binding.names_of.Given as goal

abbrev pub invariant-loop-entry : goal.invariant-loop-entry
invariant-loop-entry l = l.names.items ++ names_of (map entry_of (drop l.entry-index l.entries)) ≡ names_of (map entry_of l.entries)
