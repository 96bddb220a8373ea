use Rattle.std.proofs.Common.{ap, ◌∙◌}
use Rattle.clos_hierarchy.specs.Classes.{list_in, listing}
use Rattle.clos_precedence.specs.PrecedenceView.{numbers}
use Rattle.clos_class.specs.SlotsView.{defaults, direct_slots}
use Rattle.clos_class.specs.Table.{classes_with, number, said_from, with_row}
use Rattle.clos_class.proofs.Preparing.{own_listing, told_each}
use Rattle.clos_class.proofs.reserve.prepare.Goals as goal

pub returns-clause-said : goal.returns-clause-said
returns-clause-said c =
    c.in_ok-said.ensures
    ∙ ap (λ n. said_from c.args.rows.now n (numbers c.list.result.now) c.args.definition.now c.args.first.0) (c.class.ensures ∙ c.in_ok-preview.ensures.class)
    ∙ ap (λ l. said_from c.args.rows.now (number c.args.table.now c.args.definition.now) l c.args.definition.now c.args.first.0)
    (c.list.ensures
    ∙ ap list_in (own_listing (λ n. listing (classes_with c.args.table.now c.args.definition.now) n) c.in_ok-preview.preview.touched c.in_ok-preview.preview.listings c.in_ok-preview.preview.class c.in_ok-preview.ensures.lists c.in_ok-preview.ensures.own)
    ∙ ap (λ n. list_in (listing (classes_with c.args.table.now c.args.definition.now) n)) c.in_ok-preview.ensures.class)

pub returns-clause-kept : goal.returns-clause-kept
returns-clause-kept c =
    told_each (direct_slots (with_row c.args.rows.now c.in_ok-preview.preview.class c.in_ok-said.said)) (defaults (with_row c.args.rows.now c.in_ok-preview.preview.class c.in_ok-said.said))
    (λ n. listing (classes_with c.args.table.now c.args.definition.now) n) c.in_ok-preview.preview.touched c.in_ok-preview.preview.listings c.in_ok-kept.kept.items c.in_ok-preview.ensures.lists c.in_ok-kept.ensures.len c.in_ok-kept.ensures.each
