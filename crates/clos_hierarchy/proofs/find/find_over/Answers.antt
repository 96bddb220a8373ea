use Rattle.std.proofs.Common.{◌≡◌, ◌∷◌, false, sym, subst, ◌∙◌}
use Rattle.std.proofs.lemmas.Result.{IfOk-weaker}
use Rattle.clos_hierarchy.specs.inner.Finding.{any_lacking, any_broken, together}
use Rattle.clos_precedence.specs.Precedence.{precedence_list}
use Rattle.clos_hierarchy.specs.Classes.{listed_if}
use Rattle.clos_precedence.specs.PrecedenceView.{numbers}
use Rattle.clos_hierarchy.specs.inner.KeptView.{listing_of, listing_at, above_by}
use Rattle.clos_precedence.proofs.SameMembers.{Same}
use Rattle.clos_hierarchy.proofs.SameFamily.{family_based}
use Rattle.clos_hierarchy.proofs.find.find_over.Goals as goal

pub returns-clause-found : goal.returns-clause-found
returns-clause-found c =
    IfOk-weaker c.line.result _ _
    (λ r h.
    family_based c.args.kept.now c.args.class.0 (listing_of r) (numbers c.args.direct.items) (numbers c.in_ok-family.family.items)
    (subst (λ v. any_lacking (listing_at c.args.kept.now) (numbers v) ≡ false) c.as_slice.ensures.value (sym c.any_lacking.ensures ∙ c.if-any_lacking.false))
    (subst (λ v. any_broken (listing_at c.args.kept.now) (numbers v) ≡ false) c.as_slice-2.ensures.value (sym c.any_broken.ensures ∙ c.if-any_broken.false))
    (subst (λ v. Same (numbers c.in_ok-family.family.items) (c.args.class.0 ∷ together (listing_at c.args.kept.now) (numbers v))) c.as_slice-3.ensures.value c.in_ok-family.ensures)
    (subst (λ v. listing_of r ≡ listed_if (precedence_list (above_by c.args.kept.now c.args.class.0 (numbers c.args.direct.items)) c.args.class.0 (numbers v))) c.as_slice-4.ensures.value h))
    c.line.ensures.found
