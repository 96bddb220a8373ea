use Rattle.std.proofs.Common.{ap, sym, ◌∙◌}
use Rattle.clos_store.specs.Store.{slots_of, value_at}
use Rattle.clos_store.proofs.Slots.{slots_there, value_placed}
use Rattle.clos_store.proofs.store.Store.read.Goals as goal

pub returns-clause-named : goal.returns-clause-named
returns-clause-named c = λ name h.
    let w = c.args.self.now.contents in
    c.read.ensures ∙ ap (λ ss. value_at ss c.args.place) (sym (slots_there _ w c.args.id.0 c.args.place c.index.result.now (ap (λ h. h.contents) c.self.view_is) c.requires c.index.ensures))
    ∙ value_placed (slots_of w c.args.id.0) name c.args.place h
