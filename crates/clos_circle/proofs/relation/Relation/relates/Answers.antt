use Rattle.std.proofs.Common.{ap, sym, ◌∙◌}
use Rattle.clos_circle.specs.DefinitionView.{direct_of}
use Rattle.clos_circle.specs.declared.relation.Relation.{Relation}
use Rattle.clos_circle.specs.inner.Before.{related_by}
use Rattle.clos_circle.specs.inner.Upward.{is_among}
use Rattle.clos_circle.proofs.Before.{named_before}
use Rattle.clos_circle.proofs.relation.Relation.relates.Goals as goal

pub returns-in-Before : goal.returns-in-Before
returns-in-Before c =
    c.any_next.ensures ∙ named_before (direct_of c.in-Before.definition) c.in-Before.names.now c.args.above.now c.args.name.now
    ∙ ap (λ (r : Relation). is_among (related_by r c.args.name.now) c.args.above.now) (sym c.in-Before.is)
