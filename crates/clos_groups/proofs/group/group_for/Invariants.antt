use Rattle.std.proofs.Common.{◌≡◌, drop, map}
use Rattle.lisp_data.specs.ValueView.{value_of}
use Rattle.clos_groups.specs.Group.{first_from, group_for}
use Rattle.clos_groups.proofs.group.group_for.Given as goal

abbrev pub invariant-loop-place : goal.invariant-loop-place
invariant-loop-place l =
    first_from l.place (drop l.place l.groups) (map value_of l.qualifiers) ≡ group_for l.groups (map value_of l.qualifiers)
