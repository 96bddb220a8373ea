use Rattle.std.proofs.Common.{◌++◌, ◌∙◌, ap}
use Rattle.std.proofs.lemmas.List.{append_assoc}
use Rattle.std.proofs.lemmas.Result.{on_ok_weaker}
use Rattle.std.specs.Prelude.{option_map, codes}
use Rattle.lisp_data.specs.Print.{called_text}
use Rattle.lisp_data.specs.PrintView.{called}
use Rattle.lisp_data.proofs.Printing.{ok_from_if}
use Rattle.lisp_data.proofs.print.print_generic.Goals as goal

pub returns : goal.returns
returns c =
    let name = called_text (option_map called c.args.name) in
    let start = codes "#<GENERIC-FUNCTION " in
    on_ok_weaker c.extend_from_slice-2.result
    (λ e. e
    ∙ ap (λ o. o ++ codes ">") (c.in_ok-print_called.ensures ∙ ap (λ o. o ++ name) c.in_ok-extend_from_slice.ensures.items ∙ append_assoc c.args.out.now.items start name)
    ∙ append_assoc c.args.out.now.items (start ++ name) (codes ">")
    ∙ ap (λ t. c.args.out.now.items ++ t) (append_assoc start name (codes ">")))
    (ok_from_if c.extend_from_slice-2.result c.extend_from_slice-2.new.self.items (c.print_called.new.out.items ++ codes ">") c.print_called.new.out.items c.extend_from_slice-2.ensures.items)
