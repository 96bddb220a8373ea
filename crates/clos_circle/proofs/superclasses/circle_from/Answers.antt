use Rattle.std.proofs.Common.{◌≡◌, None, Some, ap, subst, sym, ◌∙◌}
use Rattle.std.specs.Prelude.{position}
use Rattle.lisp_data.specs.Name.{Name}
use Rattle.clos_circle.specs.Circle.{FindsCircle}
use Rattle.clos_circle.specs.inner.Before.{related_by}
use Rattle.clos_circle.specs.inner.Upward.{found_in, is_among}
use Rattle.clos_circle.proofs.WayUp.{no_circle, none_passes, one_passes}
use Rattle.clos_circle.proofs.superclasses.circle_from.Goals as goal

pub returns-in-None : goal.returns-in-None
returns-in-None c =
    let f = related_by c.args.relation in
    let first = c.args.first.now in
    let names = c.in_ok-found.found.names.items in
    let test = λ (y : Name). is_among (f y) first in
    let none : position test names ≡ None =
    ap (position test) (sym c.as_slice.ensures.value) ∙ sym c.closing.ensures ∙ c.in-None.is in
    subst (FindsCircle f first) (sym c.new-in-None.ensures.items)
    (no_circle f first (found_in c.in_ok-found.found) c.in_ok-found.ensures (none_passes test names none))

pub way-requires-clause-closes : goal.way-requires-clause-closes
way-requires-clause-closes c =
    let f = related_by c.args.relation in
    let names = c.in_ok-found.found.names.items in
    let test = λ (y : Name). is_among (f y) c.args.first.now in
    let one : position test names ≡ Some c.in-Some.place =
    ap (position test) (sym c.as_slice.ensures.value) ∙ sym c.closing.ensures ∙ c.in-Some.is in
    one_passes test names c.in-Some.place one
