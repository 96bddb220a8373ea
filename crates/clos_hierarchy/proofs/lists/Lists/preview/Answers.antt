use Rattle.std.proofs.Common.{ap, map, subst, sym, ◌∙◌}
use Rattle.clos_precedence.specs.PrecedenceView.{numbers}
use Rattle.clos_hierarchy.specs.Classes.{listing}
use Rattle.clos_hierarchy.specs.inner.Told.{Tells, told}
use Rattle.clos_hierarchy.specs.inner.KeptView.{listing_of}
use Rattle.clos_hierarchy.specs.inner.Touched.{AreNoted}
use Rattle.clos_hierarchy.proofs.Placed.{as_long, listings_are}
use Rattle.clos_hierarchy.proofs.lists.Lists.preview.Goals as goal

pub invariant_of-self-2 : goal.invariant_of-self-2
invariant_of-self-2 c =
    subst (AreNoted c.self.inside.below)
    (sym (c.put_back-places.ensures.back c.args.class.0 c.self.inside.kept.items c.in_ok-replaced.ensures.replaced (sym (as_long c.self.inside.kept c.len-len.result c.len-len.ensures))))
    c.self.invariant

pub returns-clause-lists : goal.returns-clause-lists
returns-clause-lists c = λ cs k m.
    let was : Tells cs (told c.self.inside.kept.items c.self.inside.direct) = subst (Tells cs) (sym c.self.view_is) k in
    ap (map listing_of) c.put_back-places.ensures.found ∙ listings_are c.args.definitions.now c.place.new.kept.items (numbers c.in_ok-replaced.replaced.places.items) (c.in_ok-replaced.ensures.knows cs was m)
    ∙ ap (λ v. map (λ n. listing c.args.definitions.now n) (numbers v)) (sym c.put_back-places.ensures.places)

pub returns-clause-same : goal.returns-clause-same
returns-clause-same c =
    ap (λ v. told v c.self.inside.direct)
    (c.put_back-places.ensures.back c.args.class.0 c.self.inside.kept.items c.in_ok-replaced.ensures.replaced (sym (as_long c.self.inside.kept c.len-len.result c.len-len.ensures)))
    ∙ c.self.view_is
