use Rattle.std.proofs.Common.{◌≡◌, ◌≤◌}
use Rattle.lisp_data.specs.Datum.{size_of_data}
use Rattle.clos_top.specs.Top.{any_has_method}
use Rattle.clos_top.proofs.top.+methods.Given as goal

abbrev pub invariant-any_mentions_method-loop-first : goal.invariant-any_mentions_method-loop-first
invariant-any_mentions_method-loop-first l = (size_of_data l.rest ≤ size_of_data l.elements) × (any_has_method l.rest ≡ any_has_method l.elements)
