use Rattle.std.proofs.Common.{ap, sym, ◌∙◌}
use Rattle.std.specs.List.{filter, list_any}
use Rattle.lisp_data.specs.Name.{same_name}
use Rattle.clos_class.specs.inner.Building.{with_name, with_names}
use Rattle.clos_class.specs.Slots.{names}
use Rattle.clos_class.proofs.Needed.{one_among}
use Rattle.clos_class.proofs.cells.add_among.Goals as goal

pub loop-slot-preserved-in_ok-add : goal.loop-slot-preserved-in_ok-add
loop-slot-preserved-in_ok-add c =
    one_among (λ n. list_any (same_name n) c.args.lacking.now) c.loop-slot.found c.add.new.self c.in-Some.slot.now.name (names c.in-Some.others.now) (sym c.has.ensures ∙ c.if-has.true)
    (c.in_ok-add.ensures ∙ ap (with_name c.loop-slot.found) c.in_ok-copy.ensures)
    ∙ ap (λ ss. with_names c.loop-slot.found (filter (λ n. list_any (same_name n) c.args.lacking.now) (names ss))) (sym c.in-Some.ensures.cases.0)
    ∙ c.loop-slot.invariant
