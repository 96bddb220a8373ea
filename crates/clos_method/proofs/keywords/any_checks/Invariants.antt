use Rattle.std.proofs.Common.{◌≡◌, drop}
use Rattle.std.specs.List.{list_any}
use Rattle.clos_method.specs.Keywords.{method_checks}
use Rattle.clos_method.specs.MethodIds.{method_numbers}
use Rattle.clos_method.proofs.keywords.any_checks.Given as goal

-- none of those so far
abbrev pub invariant-loop-id : goal.invariant-loop-id
invariant-loop-id l = list_any (method_checks l.methods) (method_numbers (drop l.id-index l.applicable)) ≡ list_any (method_checks l.methods) (method_numbers l.applicable)
