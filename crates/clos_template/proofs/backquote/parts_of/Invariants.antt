use Rattle.std.proofs.Common.{◌≡◌, ◌++◌, drop, map}
use Rattle.clos_template.specs.Backquote.{parts_of}
use Rattle.clos_template.specs.BackquoteView.{element_of}
use Rattle.clos_template.specs.PartView.{part_of}
use Rattle.clos_template.proofs.backquote.parts_of.Given as goal

abbrev pub invariant-loop-element : goal.invariant-loop-element
invariant-loop-element l = map part_of l.parts.items ++ parts_of (map element_of (drop l.element-index l.elements)) ≡ parts_of (map element_of l.elements)
