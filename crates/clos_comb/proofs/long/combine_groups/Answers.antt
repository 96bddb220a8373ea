use Rattle.std.proofs.Common.{◌≡◌, Some, ap, sym, ◌∙◌}
use Rattle.clos_groups.specs.clos_method.MethodIds.{method_numbers}
use Rattle.clos_groups.specs.Group.{members}
use Rattle.clos_comb.specs.Long.{groups_bound}
use Rattle.clos_comb.proofs.Expanded.{bound_in, fits}
use Rattle.clos_comb.proofs.long.combine_groups.Goals as goal

pub returns-in_ok-append-in-Some : goal.returns-in_ok-append-in-Some
returns-in_ok-append-in-Some c =
    let found : Some c.in-Some.groups ≡ bound_in c.args.form.now c.args.methods.now c.args.arguments.now (method_numbers c.args.ids.now) c.in_ok-scope.scope =
    sym c.in-Some.is ∙ c.in_ok-bind_groups.ensures ∙ ap (λ gs. groups_bound c.in_ok-scope.scope (λ k. members c.args.methods.now gs k (method_numbers c.args.ids.now)) 0 gs) c.as_slice.ensures
    in fits c.args.form.now c.args.methods.now c.args.arguments.now (method_numbers c.args.ids.now) c.in_ok-scope.scope c.in-Some.groups c.append.new.self c.expand_in.result
    (sym c.if-not-takes.false ∙ c.takes.ensures) c.in_ok-scope.ensures found c.in_ok-append-in-Some.ensures c.expand_in.ensures
