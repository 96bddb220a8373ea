use Rattle.std.proofs.Common.{◌≡◌, take}
use Rattle.clos_method.specs.MethodIds.{method_numbers}
use Rattle.clos_groups.specs.Group.{members}
use Rattle.clos_groups.proofs.member.members.Given as goal

abbrev pub invariant-loop-id : goal.invariant-loop-id
invariant-loop-id l = method_numbers l.members.items ≡ members l.methods l.groups l.place (method_numbers (take l.id-index l.ids))
