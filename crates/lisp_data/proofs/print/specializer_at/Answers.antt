use Rattle.lisp_data.specs.Print.{specializers_of}
use Rattle.lisp_data.specs.PrintView.{specializers_from}
use Rattle.lisp_data.proofs.Printing.{specializers_told}
use Rattle.lisp_data.proofs.print.specializer_at.Goals as goal

pub returns : goal.returns
unfolding specializers_from
returns g c = specializers_told (g.N.Naming.names c.args.names.now) c.args.depth c.specializer.result (specializers_of ((g.N.Naming.names c.args.names.now).method c.args.id.0)) c.args.place c.specializer.ensures
