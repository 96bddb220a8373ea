use Rattle.std.proofs.Common.{◌≡◌, List, subst}
use Rattle.std.specs.Prelude.{IfOk}
use Rattle.lisp_data.specs.Name.{Name}
use Rattle.clos_circle.specs.DefinitionView.{direct_of}
use Rattle.clos_circle.specs.inner.Before.{FindsAmong, befores, edges_for}
use Rattle.clos_circle.specs.inner.Upward.{found_in}
use Rattle.clos_circle.proofs.Before.{found_if_ok}
use Rattle.clos_circle.proofs.precedence.precedence_circle.Goals as goal

pub returns : goal.returns
returns c =
    let f = direct_of c.args.definition in
    let u = found_in c.in_ok-found.found in
    let circle = c.in_ok-circle.circle.items in
    let among : FindsAmong (befores f u.0) u.0 circle =
    subst (λ (ns : List Name). FindsAmong (befores f ns) ns circle) c.as_slice-names.ensures.value c.in_ok-circle.ensures in
    let edges : IfOk c.edges_for.result (λ r. r.items ≡ edges_for f u.0 circle) =
    subst (λ (ns : List Name). IfOk c.edges_for.result (λ r. r.items ≡ edges_for f ns circle)) c.as_slice-names.ensures.value
    (subst (λ (l : List Name). IfOk c.edges_for.result (λ r. r.items ≡ edges_for f c.as_slice-names.result.now l)) c.as_slice.ensures.value
    c.edges_for.ensures) in
    found_if_ok (λ v. v.items) f c.args.name.now u circle c.edges_for.result c.in_ok-found.ensures among edges
