use Rattle.lisp_data.specs.Print.{text_of}
use Rattle.lisp_data.specs.ValueView.{value_of}
use Rattle.lisp_data.proofs.Printing.{turn_prints, turn_pays}
use Rattle.lisp_data.proofs.print.print.Goals as goal

pub loop-piece-preserved : goal.loop-piece-preserved
loop-piece-preserved g c =
    turn_prints c.args.readably (g.N.Naming.names c.args.names.now) c.in-Some.piece (text_of c.args.readably (g.N.Naming.names c.args.names.now) (value_of c.args.value.now))
    c.loop-piece.out.items c.print_piece.new.out.items c.loop-piece.pieces.items c.pop.new.self.items c.print_piece.new.pieces.items
    c.in-Some.ensures.items c.loop-piece.invariant c.in_ok-print_piece.ensures

pub loop-piece-smaller : goal.loop-piece-smaller
loop-piece-smaller g c =
    turn_pays c.args.readably (g.N.Naming.names c.args.names.now) c.in-Some.piece
    c.loop-piece.out.items c.print_piece.new.out.items c.loop-piece.pieces.items c.pop.new.self.items c.print_piece.new.pieces.items
    c.in-Some.ensures.items c.in_ok-print_piece.ensures
