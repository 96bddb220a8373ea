use Rattle.std.proofs.Common.{◌≡◌, drop, map}
use Rattle.std.specs.Prelude.{max}
use Rattle.lisp_data.specs.Value.{nesting_in}
use Rattle.lisp_data.specs.ValueView.{value_of}
use Rattle.lisp_prims.proofs.OnSizes.{deepest}
use Rattle.lisp_prims.proofs.lists.size_before.Given as goal

abbrev pub invariant-loop-value : goal.invariant-loop-value
invariant-loop-value l =
    max (deepest (map value_of l.values)) (nesting_in l.tail) ≡ max (deepest (map value_of (drop l.value-index l.values))) l.nesting
