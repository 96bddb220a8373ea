use Rattle.std.proofs.Common.{◌≡◌, take, map}
use Rattle.lisp_data.specs.ValueView.{value_of}
use Rattle.clos_method.proofs.qualifiers.Qualifiers.copy.Given as goal

abbrev pub invariant-loop-item : goal.invariant-loop-item
invariant-loop-item l = map value_of l.items.items ≡ map value_of (take l.item-index l.item-items)
