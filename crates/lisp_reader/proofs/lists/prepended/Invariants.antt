use Rattle.std.proofs.Common.{◌≡◌, ◌++◌, map, vec_len}
use Rattle.lisp_data.specs.Datum.{elements}
use Rattle.lisp_data.specs.DatumView.{datum_of}
use Rattle.lisp_reader.proofs.lists.prepended.Given as goal

-- the elements that are left and those of the list are all of them
abbrev pub invariant-loop-item : goal.invariant-loop-item
invariant-loop-item l = map datum_of l.items.items ++ elements l.list ≡ map datum_of l.fn.items.items ++ elements l.fn.list

abbrev pub decreases-loop-item : goal.decreases-loop-item
decreases-loop-item l = vec_len l.items
