use Rattle.std.proofs.Common.{◌≡◌, ◌↔◌, ℕ, true, option_map, IfSome, IsNone, ap, subst, ◌∙◌}
use Rattle.clos_precedence.specs.Precedence.{has}
use Rattle.clos_precedence.specs.PrecedenceView.{numbers}
use Rattle.clos_hierarchy.specs.inner.KeptView.{listing_at}
use Rattle.clos_hierarchy.specs.Table.{list_if}
use Rattle.clos_hierarchy.specs.Ways.{IsSuperclass, IsSelfOrAbove, IsIncomplete}
use Rattle.clos_hierarchy.proofs.Consistent.{no_list_told, members_told}
use Rattle.clos_hierarchy.proofs.table.Hierarchy.precedence.Goals as goal

told : (c : goal.After-listed) → option_map (λ l. numbers l.now) c.listed.result ≡ list_if (listing_at c.self.inside.lists.kept c.args.class.0)
told c = c.listed.ensures ∙ ap (λ v. list_if (listing_at v c.args.class.0)) c.as_slice.ensures

pub returns-clause-members : goal.returns-clause-members
returns-clause-members c =
    subst (λ v. IfSome c.listed.result (λ l. (m : ℕ) → (has (numbers l.now) m ≡ true) ↔ IsSelfOrAbove v.classes c.args.class.0 m)) c.self.view_is
    (members_told c.self.inside.definitions c.self.inside.lists.kept c.args.class.0 c.listed.result (λ l. numbers l.now) c.self.invariant.0.knows (told c))

pub returns-clause-none : goal.returns-clause-none
returns-clause-none c =
    subst (λ v. IsNone c.listed.result ↔ IsIncomplete v.classes c.args.class.0) c.self.view_is
    (no_list_told c.self.inside.definitions c.self.inside.lists.kept c.args.class.0 c.listed.result (λ l. numbers l.now) c.self.invariant.0.knows c.self.invariant.1 (told c))

pub returns-clause-no_circle : goal.returns-clause-no_circle
returns-clause-no_circle c = subst (λ v. IsSuperclass v.classes c.args.class.0 c.args.class.0 → ⊥) c.self.view_is (λ q. c.self.invariant.1.no_circle c.args.class.0 q)
