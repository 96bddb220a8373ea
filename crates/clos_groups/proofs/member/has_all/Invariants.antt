use Rattle.std.proofs.Common.{◌≡◌, drop}
use Rattle.std.specs.Prelude.{◌==◌}
use Rattle.std.specs.List.{list_all, list_any}
use Rattle.clos_method.specs.MethodIds.{method_numbers}
use Rattle.clos_groups.proofs.member.has_all.Given as goal

-- all so far are among them
abbrev pub invariant-loop-id : goal.invariant-loop-id
invariant-loop-id l =
    list_all (λ m. list_any (λ n. n == m) (method_numbers l.ids)) (method_numbers (drop l.id-index l.called))
    ≡ list_all (λ m. list_any (λ n. n == m) (method_numbers l.ids)) (method_numbers l.called)
