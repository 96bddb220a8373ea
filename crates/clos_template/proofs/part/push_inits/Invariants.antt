use Rattle.std.proofs.Common.{◌≡◌, ◌++◌, drop, map}
use Rattle.clos_forms.specs.BindingView.{entry_of}
use Rattle.clos_template.specs.Part.{inits_of}
use Rattle.clos_template.specs.PartView.{part_of}
use Rattle.clos_template.proofs.part.push_inits.Given as goal

abbrev pub invariant-loop-entry : goal.invariant-loop-entry
invariant-loop-entry l =
    map part_of l.parts.items ++ inits_of (map entry_of (drop l.entry-index l.entries)) ≡ map part_of l.fn.parts.items ++ inits_of (map entry_of l.entries)
