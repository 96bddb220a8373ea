use Rattle.std.proofs.Common.{◌∙◌}
use Rattle.std.specs.Prelude.{Some}
use Rattle.lisp_data.specs.ValueView.{value_of}
use Rattle.clos_store.proofs.Slots.{slots_placed}
use Rattle.clos_store.proofs.store.Store.write.Goals as goal

pub returns-clause-named : goal.returns-clause-named
returns-clause-named c = λ name h. c.set.ensures ∙ slots_placed c.args.self.now c.args.id.0 name c.args.place (Some (value_of c.args.value)) h
