use Rattle.std.proofs.Common.{◌+◌, ◌<◌, drop, length, ap, arith, sym, ◌∙◌}
use Rattle.clos_hierarchy.specs.Classes.{list_in}
use Rattle.clos_hierarchy.specs.Outlook.{listing_among}
use Rattle.clos_hierarchy.proofs.Looking.{among_here, among_on}
use Rattle.clos_hierarchy.proofs.preview.Preview.list.Goals as goal

pub returns-then-index-self : goal.returns-then-index-self
returns-then-index-self c =
    let l : c.loop-place.place < length c.self.inside.touched.items = omega (arith, c.loop-place-test.true, c.len.ensures) in
    c.list_at.ensures
    ∙ ap list_in
    (sym (among_here c.self.inside.touched.items c.args.self.now.listings c.loop-place.place c.args.self.now.class c.index.result.now l (ap (λ x. x.0) (sym c.index.ensures) ∙ c.if-index-self.true ∙ ap (λ o. o.class) c.self.view_is))
    ∙ ap (λ o. listing_among (drop c.loop-place.place o.touched) (drop c.loop-place.place c.args.self.now.listings) c.args.self.now.class) c.self.view_is ∙ c.loop-place.invariant.0)

pub loop-place-preserved : goal.loop-place-preserved
loop-place-preserved c =
    let l : c.loop-place.place < length c.self.inside.touched.items = omega (arith, c.loop-place-test.true, c.len.ensures) in (
      ap (λ o. listing_among (drop (c.loop-place.place + 1) o.touched) (drop (c.loop-place.place + 1) c.args.self.now.listings) c.args.self.now.class) (sym c.self.view_is)
          ∙ among_on c.self.inside.touched.items c.args.self.now.listings c.loop-place.place c.args.self.now.class c.index.result.now l (λ e. c.if-index-self.false (ap (λ x. x.0) c.index.ensures ∙ e ∙ sym (ap (λ o. o.class) c.self.view_is)))
          ∙ ap (λ o. listing_among (drop c.loop-place.place o.touched) (drop c.loop-place.place c.args.self.now.listings) c.args.self.now.class) c.self.view_is ∙ c.loop-place.invariant.0,
      omega (arith, l),
    )
