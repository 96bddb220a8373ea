use Rattle.lisp_data.specs.Print.{qualifiers_of, specializers_of}
use Rattle.lisp_data.specs.PrintView.{qualifiers_from, specializers_text}
use Rattle.lisp_data.proofs.Printing.{qualifiers_told}
use Rattle.lisp_data.proofs.print.qualifier_at.Goals as goal

pub returns : goal.returns
unfolding qualifiers_from specializers_text
returns g c = qualifiers_told (g.N.Naming.names c.args.names.now) c.args.depth c.qualifier.result (qualifiers_of ((g.N.Naming.names c.args.names.now).method c.args.id.0)) (specializers_of ((g.N.Naming.names c.args.names.now).method c.args.id.0)) c.args.place c.qualifier.ensures
