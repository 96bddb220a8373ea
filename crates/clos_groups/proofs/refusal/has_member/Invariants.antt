use Rattle.std.proofs.Common.{◌≡◌, drop}
use Rattle.std.specs.List.{list_any}
use Rattle.clos_method.specs.MethodIds.{method_numbers}
use Rattle.clos_groups.specs.Group.{is_in}
use Rattle.clos_groups.proofs.refusal.has_member.Given as goal

abbrev pub invariant-loop-id : goal.invariant-loop-id
invariant-loop-id l =
    list_any (is_in l.methods l.groups l.place) (method_numbers (drop l.id-index l.ids)) ≡ list_any (is_in l.methods l.groups l.place) (method_numbers l.ids)
