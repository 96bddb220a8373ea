use Rattle.clos_store.proofs.Updating.{updated_there}
use Rattle.clos_store.proofs.store.Store.restructure.Goals as goal

pub returns-clause-ok : goal.returns-clause-ok
returns-clause-ok c =
    updated_there _ c.args.self.now c.args.id.0 c.args.layout.now c.index-instance.result.now c.in_ok-updated.updated c.as_slice.result.now c.class-class.result.0
    c.self.view_is c.index-instance.ensures c.as_slice.ensures.value c.class-class.ensures c.in_ok-updated.ensures
