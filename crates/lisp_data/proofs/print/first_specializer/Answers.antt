use Rattle.lisp_data.specs.Print.{specializers_of}
use Rattle.lisp_data.specs.PrintView.{specializers_from, specializers_text}
use Rattle.lisp_data.proofs.Printing.{first_told}
use Rattle.lisp_data.proofs.print.first_specializer.Goals as goal

pub returns : goal.returns
unfolding specializers_from specializers_text
returns g c = first_told (g.N.Naming.names c.args.names.now) c.args.depth c.specializer.result (specializers_of ((g.N.Naming.names c.args.names.now).method c.args.id.0)) c.specializer.ensures
