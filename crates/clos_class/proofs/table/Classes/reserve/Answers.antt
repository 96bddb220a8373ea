use Rattle.std.proofs.Common.{length, ap, ◌∙◌}
use Rattle.clos_hierarchy.specs.Classes.{list_in, listing}
use Rattle.clos_precedence.specs.PrecedenceView.{numbers}
use Rattle.clos_class.specs.Table.{cells_to_make, classes_with, list_with, number}
use Rattle.clos_class.proofs.Preparing.{known, own_listing}
use Rattle.clos_class.proofs.table.Classes.reserve.Goals as goal

pub cells_to_make-requires : goal.cells_to_make-requires
cells_to_make-requires c =
    known c.self.inside.table c.args.definition.now c.class-class.result.0 (length c.deref.result.now) (ap length c.deref.ensures.value ∙ c.self.invariant.0) (c.class-class.ensures ∙ c.in_ok-preview.ensures.class)

pub returns-clause-cells : goal.returns-clause-cells
returns-clause-cells c =
    c.in_ok-cells.ensures ∙ ap (λ v. cells_to_make v c.class-class.result.0 (numbers c.list-list.result.now) c.args.definition.now) c.deref.ensures.value
    ∙ ap (λ n. cells_to_make c.self.inside.rows.items n (numbers c.list-list.result.now) c.args.definition.now) (c.class-class.ensures ∙ c.in_ok-preview.ensures.class)
    ∙ ap (λ l. cells_to_make c.self.inside.rows.items (number c.self.inside.table c.args.definition.now) l c.args.definition.now)
    (c.list-list.ensures
    ∙ ap list_in (own_listing (λ n. listing (classes_with c.self.inside.table c.args.definition.now) n) c.in_ok-preview.preview.touched c.in_ok-preview.preview.listings c.in_ok-preview.preview.class c.in_ok-preview.ensures.lists c.in_ok-preview.ensures.own)
    ∙ ap (λ n. list_in (listing (classes_with c.self.inside.table c.args.definition.now) n)) c.in_ok-preview.ensures.class)
    ∙ ap (λ v. cells_to_make v.slots (number v.table c.args.definition.now) (list_with v.table c.args.definition.now) c.args.definition.now) c.self.view_is
