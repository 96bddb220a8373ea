use Rattle.std.proofs.Common.{◌≡◌, ap, length, ◌∙◌}
use Rattle.clos_class.specs.Table.{with_definition}
use Rattle.clos_store.specs.Objects.{with_class}
use Rattle.clos_store.specs.Store.{Held, with_cells}
use Rattle.clos_store.proofs.objects.Objects.define.Goals as goal

pub returns-clause-ok : goal.returns-clause-ok
returns-clause-ok c =
    let t : c.define.new.self ≡ with_definition c.self.inside.classes c.args.definition.now (length c.self.inside.store.contents.cells) =
    c.in-Ok-define.ensures.ok.1
    ∙ ap (with_definition c.self.inside.classes c.args.definition.now) (c.cell_count.ensures ∙ ap (λ (h : Held). length h.contents.cells) c.in-Ok.ensures.ok.1) in
    let w : c.new_cells.new.self.contents ≡ with_cells c.args.values.items c.self.inside.store.contents =
    ap (λ (h : Held). h.contents) c.new_cells.ensures ∙ ap (λ (h : Held). with_cells c.args.values.items h.contents) c.in-Ok.ensures.ok.1 in
    (λ i. record { classes = t i; contents = w i }) ∙ ap (with_class c.args.definition.now c.args.values.items) c.self.view_is
