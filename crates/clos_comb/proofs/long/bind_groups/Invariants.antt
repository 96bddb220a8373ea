use Rattle.std.proofs.Common.{◌≡◌, drop}
use Rattle.clos_groups.specs.Group.{members}
use Rattle.clos_groups.specs.clos_lambda.Lists.{before}
use Rattle.clos_groups.specs.clos_method.MethodIds.{method_numbers}
use Rattle.clos_comb.specs.Long.{groups_bound}
use Rattle.clos_comb.proofs.long.bind_groups.Given as goal

abbrev pub invariant-loop-place : goal.invariant-loop-place
invariant-loop-place l =
    before l.scope (groups_bound l.parameters (λ k. members l.methods l.groups k (method_numbers l.ids)) l.place (drop l.place l.groups))
    ≡ groups_bound l.parameters (λ k. members l.methods l.groups k (method_numbers l.ids)) 0 l.groups
