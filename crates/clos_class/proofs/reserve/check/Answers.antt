use Rattle.std.proofs.Common.{◌≡◌, map, subst, ◌∙◌}
use Rattle.std.proofs.lemmas.Result.{IfOk-weaker}
use Rattle.clos_hierarchy.specs.Classes.{listing, with_class}
use Rattle.clos_hierarchy.specs.Table.{or_standard}
use Rattle.clos_class.proofs.reserve.check.Goals as goal

pub returns-clause-lists : goal.returns-clause-lists
returns-clause-lists c =
    IfOk-weaker c.check.result _ _
    (λ r h. subst (λ names. r.listings ≡ map (λ n. listing (with_class c.args.table.now.classes c.args.definition.now.name (or_standard names)) n) r.touched)
    (c.into_items.ensures ∙ c.in_ok-superclasses.ensures ∙ c.as_slice.ensures) h)
    c.check.ensures.lists
