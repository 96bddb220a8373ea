use Rattle.std.proofs.Common.{ap, sym, ◌∙◌}
use Rattle.std.specs.Prelude.{option_map}
use Rattle.lisp_data.specs.ValueView.{value_of}
use Rattle.clos_store.specs.Store.{with_place}
use Rattle.clos_store.proofs.Slots.{slots_placed}
use Rattle.clos_store.proofs.store.Store.set_slot.Goals as goal

pub returns-in-Some : goal.returns-in-Some
returns-in-Some c =
    c.set.ensures ∙ slots_placed c.args.self.now c.args.id.0 c.args.name.now c.in-Some.place (option_map value_of c.args.value) (sym c.in-Some.ensures.value)
    ∙ ap (λ p. record c.args.self.now { contents = with_place c.args.id.0 c.args.name.now (option_map value_of c.args.value) c.args.self.now.contents p }) c.in-Some.ensures.value
