use Rattle.std.proofs.Common.{◌≡◌, drop}
use Rattle.clos_method.specs.MethodIds.{method_numbers}
use Rattle.clos_groups.specs.Refusal.{ungrouped}
use Rattle.clos_groups.proofs.refusal.ungrouped.Given as goal

abbrev pub invariant-loop-id : goal.invariant-loop-id
invariant-loop-id l = ungrouped l.methods l.groups (method_numbers (drop l.id-index l.ids)) ≡ ungrouped l.methods l.groups (method_numbers l.ids)
