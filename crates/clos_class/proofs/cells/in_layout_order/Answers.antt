use Rattle.std.proofs.Common.{refl, ap, sym, ◌∙◌}
use Rattle.std.specs.List.{filter, list_any}
use Rattle.lisp_data.specs.Name.{same_name}
use Rattle.clos_precedence.specs.PrecedenceView.{latest_first}
use Rattle.clos_class.specs.inner.Building.{with_names}
use Rattle.clos_class.specs.Slots.{names}
use Rattle.clos_class.specs.SlotsView.{slots_in}
use Rattle.clos_class.proofs.Built.{all_names}
use Rattle.clos_class.proofs.Needed.{all_of, next_class}
use Rattle.clos_class.proofs.cells.in_layout_order.Goals as goal

pub loop-class-init : goal.loop-class-init
loop-class-init c =
    ap (λ k. with_names k (filter (λ n. list_any (same_name n) c.args.lacking.now) (all_names (slots_in c.args.classes.now) c.args.list.now))) c.new-found.ensures
    ∙ all_of (λ n. list_any (same_name n) c.args.lacking.now) (slots_in c.args.classes.now) c.args.list.now (latest_first c.args.list.now) refl

pub loop-class-preserved : goal.loop-class-preserved
loop-class-preserved c =
    next_class (λ n. list_any (same_name n) c.args.lacking.now) (slots_in c.args.classes.now) c.loop-class.found c.add_among.new.found c.in-Some.others.now c.in-Some.class.now
    (c.in_ok-add_among.ensures ∙ ap (λ ss. with_names c.loop-class.found (filter (λ n. list_any (same_name n) c.args.lacking.now) (names ss))) c.slots.ensures)
    ∙ ap (λ cs. with_names c.loop-class.found (filter (λ n. list_any (same_name n) c.args.lacking.now) (all_names (slots_in c.args.classes.now) cs))) (sym c.in-Some.ensures.cases.0)
    ∙ c.loop-class.invariant
