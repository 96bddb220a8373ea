use Rattle.std.proofs.Common.{ap, ◌∙◌}
use Rattle.std.specs.HashMap.{get}
use Rattle.lisp_data.specs.Name.{same_name}
use Rattle.clos_class.specs.inner.Building.{with_names}
use Rattle.clos_class.proofs.Gathered.{one_slot}
use Rattle.clos_class.proofs.slot_initargs.add.Goals as goal

pub returns : goal.returns
returns c =
    one_slot (λ q. get same_name c.args.found.now q) (λ q. get same_name c.remove.new.self q) (λ q. get same_name c.insert.new.self q) c.args.slot.now c.in_ok-copy.field-0 c.remove.result
    c.unwrap_or-initargs.result c.new.result c.add_names.new.names c.remove.ensures.updates.0 c.in_ok-copy.ensures c.in_ok-insert.ensures.updates.0 c.remove.ensures.value c.new.ensures c.unwrap_or-initargs.ensures
    (c.in_ok-add_names.ensures ∙ ap (λ ns. with_names c.unwrap_or-initargs.result ns) c.as_slice.ensures)
