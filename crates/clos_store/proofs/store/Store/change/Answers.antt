use Rattle.std.proofs.Common.{rules}
use Rattle.clos_store.proofs.Updating.{change_there}
use Rattle.clos_store.proofs.store.Store.change.Goals as goal

pub returns-clause-ok : goal.returns-clause-ok
returns-clause-ok c = (
  search rules,
  change_there _ c.args.self.now c.args.id.0 c.args.class.0 c.args.layout.now c.index.result.now c.in_ok-changed.changed c.index_mut.result.now c.replace-copy.new.dest
      c.replace-copy.result c.reserve.new.self.items c.push.new.self.items c.as_slice.result.now
      c.self.view_is c.requires c.index.ensures c.as_slice.ensures.value c.in_ok-changed.ensures c.in_ok-reserve.ensures.items c.index_mut.ensures.value c.replace-copy.ensures.value
      c.replace-copy.ensures.after c.in-Ok.ensures.items,
)
