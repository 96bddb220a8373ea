use Rattle.std.proofs.Common.{◌≡◌, ◌++◌, take, map}
use Rattle.lisp_data.specs.ValueView.{value_of}
use Rattle.clos_world.proofs.values.Values.push_all.Given as goal

abbrev pub invariant-loop-value : goal.invariant-loop-value
invariant-loop-value l = map value_of l.self-inside.values.items ≡ l.fn.self ++ map value_of (take l.value-index l.values)
