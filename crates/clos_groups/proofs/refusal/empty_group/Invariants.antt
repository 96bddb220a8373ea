use Rattle.std.proofs.Common.{◌≡◌, drop}
use Rattle.clos_method.specs.MethodIds.{method_numbers}
use Rattle.clos_groups.specs.Refusal.{empty_from}
use Rattle.clos_groups.proofs.refusal.empty_group.Given as goal

abbrev pub invariant-loop-place : goal.invariant-loop-place
invariant-loop-place l =
    empty_from l.methods l.groups (method_numbers l.ids) l.place (drop l.place l.groups)
    ≡ empty_from l.methods l.groups (method_numbers l.ids) 0 l.groups
