use Rattle.std.proofs.Common.{◌≡◌, take}
use Rattle.clos_method.specs.MethodIds.{method_numbers}
use Rattle.clos_groups.specs.Refusal.{among}
use Rattle.clos_groups.proofs.member.among.Given as goal

abbrev pub invariant-loop-id : goal.invariant-loop-id
invariant-loop-id l = method_numbers l.members.items ≡ among (method_numbers l.ids) (method_numbers (take l.id-index l.added))
