use Rattle.std.proofs.Common.{◌≡◌, drop}
use Rattle.std.specs.List.{list_any}
use Rattle.lisp_data.specs.ValueView.{value_of}
use Rattle.clos_method.specs.Applicable.{has_eql_at}
use Rattle.clos_method.specs.MethodIds.{method_numbers}
use Rattle.clos_method.proofs.applicable.has_eql.Given as goal

-- none of those so far
abbrev pub invariant-loop-id : goal.invariant-loop-id
invariant-loop-id l = list_any (has_eql_at l.methods l.place (value_of l.object)) (method_numbers (drop l.id-index l.candidates)) ≡ list_any (has_eql_at l.methods l.place (value_of l.object)) (method_numbers l.candidates)
