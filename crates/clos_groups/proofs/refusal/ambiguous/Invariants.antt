use Rattle.std.proofs.Common.{◌≡◌, drop}
use Rattle.clos_method.specs.MethodIds.{method_numbers}
use Rattle.clos_groups.specs.Refusal.{ambiguous_from}
use Rattle.clos_groups.proofs.refusal.ambiguous.Given as goal

abbrev pub invariant-loop-place : goal.invariant-loop-place
invariant-loop-place l =
    ambiguous_from l.methods l.groups (method_numbers l.ids) l.place (drop l.place l.groups)
    ≡ ambiguous_from l.methods l.groups (method_numbers l.ids) 0 l.groups
