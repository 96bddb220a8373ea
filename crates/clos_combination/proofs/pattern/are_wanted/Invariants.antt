use Rattle.std.proofs.Common.{◌≡◌, drop, map}
use Rattle.lisp_data.specs.ValueView.{value_of}
use Rattle.clos_combination.specs.Pattern.{are_wanted}
use Rattle.clos_combination.specs.PatternView.{wanted_of}
use Rattle.clos_combination.proofs.pattern.are_wanted.Given as goal

abbrev pub invariant-loop-element : goal.invariant-loop-element
invariant-loop-element l =
    are_wanted (map wanted_of (drop l.element-index l.wanted)) l.more (map value_of l.rest) ≡ are_wanted (map wanted_of l.wanted) l.more (map value_of l.qualifiers)
