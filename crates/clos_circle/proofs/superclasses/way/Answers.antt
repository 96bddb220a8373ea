use Rattle.std.proofs.Common.{◌≡◌, ◌<◌, [], ◌∷◌, ◌++◌, true, Some, length, arith, refl, ap, subst, sym, ◌∙◌}
use Rattle.std.specs.Prelude.{slice_get}
use Rattle.std.proofs.lemmas.Option.{slice_get_read}
use Rattle.clos_circle.specs.Circle.{is_circle, leads_down}
use Rattle.clos_circle.specs.inner.Before.{related_by}
use Rattle.clos_circle.specs.inner.Upward.{found_in}
use Rattle.clos_circle.proofs.WayUp.{closed_circle, next_within, way_goes_on}
use Rattle.clos_circle.proofs.superclasses.way.Goals as goal

pub loop-place-smaller : goal.loop-place-smaller
loop-place-smaller c =
    let u = found_in c.args.found.now in
    let y = c.index.result.now in
    let at : slice_get u.0 c.loop-place.place ≡ Some y =
    slice_get_read u.0 (length u.0) c.loop-place.place y refl c.loop-place.invariant.within c.index.ensures in
    let within : c.loop-place.place < length u.1 = omega (arith, c.loop-place.invariant.within, c.requires.upward.as_many) in
    let next : slice_get u.1 c.loop-place.place ≡ Some c.index-place.result.now =
    slice_get_read u.1 (length u.1) c.loop-place.place c.index-place.result.now refl within c.index-place.ensures in
    (next_within (related_by c.args.relation) c.args.first.now u c.requires.upward c.loop-place.place c.index-place.result.now y
    c.loop-place-test.true at next).0

pub loop-place-preserved : goal.loop-place-preserved
loop-place-preserved c =
    let f = related_by c.args.relation in
    let first = c.args.first.now in
    let u = found_in c.args.found.now in
    let y = c.index.result.now in
    let names = c.loop-place.names.items in
    let place = c.loop-place.place in
    let to = c.index-place.result.now in
    let at : slice_get u.0 place ≡ Some y = slice_get_read u.0 (length u.0) place y refl c.loop-place.invariant.within c.index.ensures in
    let within : place < length u.1 = omega (arith, c.loop-place.invariant.within, c.requires.upward.as_many) in
    let next : slice_get u.1 place ≡ Some to = slice_get_read u.1 (length u.1) place to refl within c.index-place.ensures in
    let more : c.push-in-loop-place.new.self.items ≡ names ++ y ∷ [] =
    c.in_ok-push-2.ensures.items ∙ ap (λ n. names ++ n ∷ []) c.in_ok-copy-2.ensures in
    record {
      begins = (c.loop-place.invariant.begins.0 ++ y ∷ [], more ∙ ap (λ l. l ++ y ∷ []) c.loop-place.invariant.begins.1);
      within = (next_within f first u c.requires.upward place to y c.loop-place-test.true at next).1;
      down = λ z q.
          subst (λ l. leads_down f (l ++ z ∷ []) ≡ true) (sym more)
          (way_goes_on f first u c.requires.upward names place to y c.loop-place-test.true at next
          (c.loop-place.invariant.down y at) z q);
    }

pub returns : goal.returns
returns c =
    let f = related_by c.args.relation in
    let first = c.args.first.now in
    let u = found_in c.args.found.now in
    let names = c.loop-place.names.items in
    let zero : 0 ≡ c.loop-place.place = omega (arith, c.loop-place-test.false) in
    let at : slice_get u.0 c.loop-place.place ≡ Some first =
    subst (λ n. slice_get u.0 n ≡ Some first) zero c.requires.upward.begins in
    let more : c.push-2.new.self.items ≡ names ++ first ∷ [] =
    c.in_ok-push-3.ensures.items ∙ ap (λ n. names ++ n ∷ []) c.in_ok-copy-3.ensures in
    subst (λ l. is_circle f l ≡ true) (sym more)
    (closed_circle f first names c.loop-place.invariant.begins.0 c.loop-place.invariant.begins.1 (c.loop-place.invariant.down first at))
