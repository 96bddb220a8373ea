use Rattle.std.proofs.lemmas.Result.{on_ok_weaker}
use Rattle.lisp_data.specs.Print.{specializer_text}
use Rattle.lisp_data.proofs.print.print_specializer.Goals as goal

pub returns-in-Eql : goal.returns-in-Eql
unfolding specializer_text
returns-in-Eql g c =
    rw c.in-Eql.is (on_ok_weaker c.print_eql.result (λ h readably. h readably (g.N.Naming.names c.args.names.now)) c.print_eql.ensures)
