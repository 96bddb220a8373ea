use Rattle.std.proofs.Common.{◌≡◌}
use Rattle.lisp_data.specs.Value.{size_of_values}
use Rattle.clos_machine.specs.clos_meaning.Filling.{is_listed}
use Rattle.clos_filling.proofs.slot_names.is_listed.Given as goal

abbrev pub invariant-loop-first : goal.invariant-loop-first
invariant-loop-first l = is_listed l.fn.name l.rest ≡ is_listed l.fn.name l.items

abbrev pub decreases-loop-first : goal.decreases-loop-first
decreases-loop-first l = size_of_values l.rest
