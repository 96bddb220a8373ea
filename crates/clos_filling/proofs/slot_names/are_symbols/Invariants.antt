use Rattle.std.proofs.Common.{◌≡◌}
use Rattle.lisp_data.specs.Value.{size_of_values}
use Rattle.clos_machine.specs.clos_meaning.Filling.{are_symbols}
use Rattle.clos_filling.proofs.slot_names.are_symbols.Given as goal

abbrev pub invariant-loop-first : goal.invariant-loop-first
invariant-loop-first l = are_symbols l.rest ≡ are_symbols l.items

abbrev pub decreases-loop-first : goal.decreases-loop-first
decreases-loop-first l = size_of_values l.rest
