use Rattle.std.proofs.Common.{◌≡◌, subst}
use Rattle.std.specs.Prelude.{IfOk}
use Rattle.clos_class.specs.Table.{cells_to_make, list_with, number}
use Rattle.clos_store.specs.Objects.{Objects}
use Rattle.clos_store.proofs.objects.Objects.reserve_class.Goals as goal

pub returns-clause-cells : goal.returns-clause-cells
returns-clause-cells c =
    subst (λ (o : Objects). IfOk c.reserve.result (λ r. r.cells ≡ cells_to_make o.classes.slots (number o.classes.table c.args.definition.now) (list_with o.classes.table c.args.definition.now) c.args.definition.now))
    c.self.view_is c.reserve.ensures.cells
