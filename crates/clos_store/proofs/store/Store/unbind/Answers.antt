use Rattle.std.proofs.Common.{◌∙◌}
use Rattle.std.specs.Prelude.{None}
use Rattle.clos_store.proofs.Slots.{slots_placed}
use Rattle.clos_store.proofs.store.Store.unbind.Goals as goal

pub returns-clause-named : goal.returns-clause-named
returns-clause-named c = λ name h. c.set.ensures ∙ slots_placed c.args.self.now c.args.id.0 name c.args.place None h
