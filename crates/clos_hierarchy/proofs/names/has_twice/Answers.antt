use Rattle.std.proofs.Common.{◌∷◌, ap, sym, ◌∙◌}
use Rattle.std.specs.HashSet.{contains}
use Rattle.lisp_data.specs.Name.{same_name}
use Rattle.clos_hierarchy.proofs.Twice.{seen_or_twice, one_seen, was_not_seen}
use Rattle.clos_hierarchy.proofs.names.has_twice.Goals as goal

pub loop-name-preserved : goal.loop-name-preserved
loop-name-preserved c =
    one_seen (contains same_name c.loop-name.seen) (contains same_name c.insert.new.self) c.in_ok-copy.field-0 c.in-Some.others.now
    (was_not_seen c.in_ok-is_new.is_new (contains same_name c.loop-name.seen c.in_ok-copy.field-0) c.in_ok-is_new.ensures.added c.if-not-is_new.false) c.in_ok-is_new.ensures.updates.0
    ∙ ap (seen_or_twice (contains same_name c.loop-name.seen)) (ap (λ n. n ∷ c.in-Some.others.now) c.in_ok-copy.ensures ∙ sym c.in-Some.ensures.cases.0)
    ∙ c.loop-name.invariant
