use Rattle.std.proofs.Common.{◌≡◌, IfOk, map, subst}
use Rattle.clos_watch.proofs.dependents.VecHandedDependents.copy_names.Goals as goal

pub returns : goal.returns
returns g c = subst (λ xs. IfOk c.copy_names.result (λ r. r.items ≡ map (λ d. d.0) xs)) c.as_slice.ensures.value c.copy_names.ensures
