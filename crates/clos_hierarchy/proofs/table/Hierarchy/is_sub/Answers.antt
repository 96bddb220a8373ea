use Rattle.std.proofs.Common.{◌≡◌, ◌↔◌, IsTrue, ap, subst, ◌∙◌}
use Rattle.clos_hierarchy.specs.Classes.{list_in}
use Rattle.clos_precedence.specs.Precedence.{has}
use Rattle.clos_hierarchy.specs.inner.KeptView.{listing_at}
use Rattle.clos_hierarchy.specs.Ways.{IsSelfOrAbove, IsComplete}
use Rattle.clos_hierarchy.proofs.Consistent.{below_told}
use Rattle.clos_hierarchy.proofs.table.Hierarchy.is_sub.Goals as goal

told : (c : goal.After-contains) → c.contains.result ≡ has (list_in (listing_at c.self.inside.lists.kept c.args.class.0)) c.args.above.0
told c =
    c.contains.ensures
    ∙ ap (λ v. has v c.args.above.0) c.list_of.ensures
    ∙ ap (λ v. has (list_in (listing_at v c.args.class.0)) c.args.above.0) c.as_slice.ensures

pub returns-clause-law : goal.returns-clause-law
returns-clause-law c =
    subst (λ v. IsTrue c.contains.result ↔ (IsComplete v.classes c.args.class.0 × IsSelfOrAbove v.classes c.args.class.0 c.args.above.0)) c.self.view_is
    (below_told c.self.inside.definitions c.self.inside.lists.kept c.args.class.0 c.args.above.0 c.contains.result c.self.invariant.0.knows c.self.invariant.1 (told c))
