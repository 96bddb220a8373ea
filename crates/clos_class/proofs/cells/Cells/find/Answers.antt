use Rattle.std.proofs.Common.{ap, sym, ◌∙◌}
use Rattle.std.specs.HashMap.{get}
use Rattle.lisp_data.specs.Name.{same_name}
use Rattle.clos_precedence.specs.PrecedenceView.{numbers}
use Rattle.clos_class.specs.Slots.{cell_in}
use Rattle.clos_class.specs.Table.{needs_cell}
use Rattle.clos_class.proofs.Needed.{is_none, none_needed, own_found, some_needed}
use Rattle.clos_class.proofs.cells.Cells.find.Goals as goal

pub returns-then-len-eq0-clause-new : goal.returns-then-len-eq0-clause-new
returns-then-len-eq0-clause-new c =
    none_needed c.args.rows.now c.args.class.0 (numbers c.args.list.now) c.args.definition.now (λ m. cell_in (get same_name c.in_ok-own.own m)) c.in_ok-lacking.lacking
    (own_found c.kept.result c.args.rows.now c.args.class.0 (λ m. get same_name c.in_ok-own.own m) c.kept.ensures c.in_ok-own.ensures)
    (λ m. c.in_ok-lacking.ensures m ∙ ap (λ ss. needs_cell (λ k. cell_in (get same_name c.in_ok-own.own k)) ss m) c.as_slice.ensures)
    (is_none c.in_ok-lacking.lacking (sym c.len.ensures ∙ c.if-len-eq0.true))

pub returns-clause-new : goal.returns-clause-new
returns-clause-new c =
    some_needed c.args.rows.now c.args.class.0 (numbers c.args.list.now) c.args.definition.now (λ m. cell_in (get same_name c.in_ok-own.own m)) c.in_ok-lacking.lacking c.in_ok-new.new
    (own_found c.kept.result c.args.rows.now c.args.class.0 (λ m. get same_name c.in_ok-own.own m) c.kept.ensures c.in_ok-own.ensures)
    (λ m. c.in_ok-lacking.ensures m ∙ ap (λ ss. needs_cell (λ k. cell_in (get same_name c.in_ok-own.own k)) ss m) c.as_slice.ensures)
    c.in_ok-new.ensures
