use Rattle.lisp_prims.proofs.OnEquality.{eql_found}
use Rattle.lisp_prims.proofs.predicates.same_object.Goals as goal

pub returns-in-Ok : goal.returns-in-Ok
returns-in-Ok c = eql_found _ _ c.in-Ok.same c.in-Ok.ensures.refused c.in-Ok.ensures.same
