use Rattle.std.proofs.Common.{◌≡◌, ◌++◌, map}
use Rattle.lisp_data.specs.Datum.{size_of_data}
use Rattle.clos_combination.specs.Pattern.{wanted_by}
use Rattle.clos_combination.specs.PatternView.{wanted_of}
use Rattle.clos_combination.proofs.pattern.parse_elements.Given as goal

abbrev pub invariant-loop-first : goal.invariant-loop-first
invariant-loop-first l = map wanted_of l.wanted ++ wanted_by l.rest ≡ wanted_by l.elements

abbrev pub decreases-loop-first : goal.decreases-loop-first
decreases-loop-first l = size_of_data l.rest
