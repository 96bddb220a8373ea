use Rattle.std.proofs.Common.{◌≤◌}
use Rattle.lisp_data.specs.Value.{size_of_values}
use Rattle.lisp_data.specs.ValueView.{items_of}
use Rattle.lisp_data.proofs.value.+value.Given as goal

-- what is left of the list is no larger than the list
abbrev pub invariant-Items::drop-loop-link : goal.invariant-Items::drop-loop-link
invariant-Items::drop-loop-link l = size_of_values (items_of l.link) ≤ size_of_values l.fn.self
