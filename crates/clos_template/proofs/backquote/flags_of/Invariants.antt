use Rattle.std.proofs.Common.{◌≡◌, ◌++◌, drop, map}
use Rattle.clos_template.specs.Backquote.{flags_of}
use Rattle.clos_template.specs.BackquoteView.{element_of}
use Rattle.clos_template.proofs.backquote.flags_of.Given as goal

abbrev pub invariant-loop-element : goal.invariant-loop-element
invariant-loop-element l = l.flags ++ flags_of (map element_of (drop l.element-index l.elements)) ≡ flags_of (map element_of l.elements)
