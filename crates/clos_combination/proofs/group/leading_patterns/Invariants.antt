use Rattle.std.proofs.Common.{◌≡◌}
use Rattle.lisp_data.specs.Datum.{size_of_data}
use Rattle.clos_forms.specs.Binding.{each}
use Rattle.clos_lambda.specs.Lists.{before}
use Rattle.clos_combination.specs.Keyword.{before_keyword}
use Rattle.clos_combination.specs.Pattern.{pattern_in}
use Rattle.clos_combination.proofs.group.leading_patterns.Given as goal

abbrev pub invariant-loop-first : goal.invariant-loop-first
invariant-loop-first l = before l.patterns (each pattern_in (before_keyword l.rest)) ≡ each pattern_in (before_keyword l.elements)

abbrev pub decreases-loop-first : goal.decreases-loop-first
decreases-loop-first l = size_of_data l.rest
