use Rattle.std.proofs.Common.{◌≡◌, ◌++◌, ◌+◌, ◌*◌, length}
use Rattle.lisp_data.specs.Print.{text_of}
use Rattle.lisp_data.specs.PrintView.{pending}
use Rattle.lisp_data.specs.ValueView.{value_of}
use Rattle.lisp_data.proofs.print.print.Given as goal

-- what is written and what waits make the value's text
abbrev pub invariant-loop-piece : goal.invariant-loop-piece
invariant-loop-piece g l =
    l.out.items ++ pending l.readably (g.N.Naming.names l.names) l.pieces.items ≡ text_of l.readably (g.N.Naming.names l.names) (value_of l.value)

-- Each turn writes what it pays for with pieces.
abbrev pub decreases-loop-piece : goal.decreases-loop-piece
decreases-loop-piece g l = 2 * length (pending l.readably (g.N.Naming.names l.names) l.pieces.items) + length l.pieces.items
