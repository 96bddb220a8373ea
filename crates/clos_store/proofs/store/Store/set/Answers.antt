use Rattle.std.specs.Prelude.{option_map}
use Rattle.lisp_data.specs.ValueView.{value_of}
use Rattle.clos_store.specs.Store.{with_value_at}
use Rattle.clos_store.proofs.Slots.{slots_changed}
use Rattle.clos_store.proofs.store.Store.set.Goals as goal

pub returns : goal.returns
returns c =
    slots_changed _ c.args.self.now c.args.id.0 c.index_mut.result.now c.set.new.self (with_value_at c.args.place (option_map value_of c.args.value)) c.self.view_is c.index_mut.ensures.value c.set.ensures
