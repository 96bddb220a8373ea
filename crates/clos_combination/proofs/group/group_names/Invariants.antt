use Rattle.std.proofs.Common.{◌≡◌, ◌++◌, drop}
use Rattle.clos_combination.specs.Group.{group_names}
use Rattle.clos_combination.proofs.group.group_names.Given as goal

abbrev pub invariant-loop-group : goal.invariant-loop-group
invariant-loop-group l = l.names.items ++ group_names (drop l.group-index l.groups) ≡ group_names l.groups
