use Rattle.std.proofs.Common.{◌∷◌}
use Rattle.clos_hierarchy.specs.inner.Finding.{together}
use Rattle.clos_precedence.specs.PrecedenceView.{numbers}
use Rattle.clos_hierarchy.specs.inner.KeptView.{listing_at}
use Rattle.clos_hierarchy.proofs.SameFamily.{family_end}
use Rattle.clos_hierarchy.proofs.find.family.Goals as goal

pub returns : goal.returns
returns c =
    family_end (listing_at c.args.kept.now) c.loop-superclass.left.now (numbers c.into_list.result.items) c.loop-superclass.family
    (c.args.class.0 ∷ together (listing_at c.args.kept.now) (numbers c.args.superclasses.now)) c.in_default.ensures.cases c.into_list.ensures c.loop-superclass.invariant
