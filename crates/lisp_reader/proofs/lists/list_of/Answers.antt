use Rattle.std.proofs.Common.{◌≡◌, arith, map, sym, ◌∙◌, vec_len}
use Rattle.std.proofs.lemmas.Bool.{eqb-false}
use Rattle.std.proofs.lemmas.List.{length-map}
use Rattle.lisp_data.specs.DatumView.{datum_of}
use Rattle.lisp_reader.proofs.OnLists.{list_of-some}
use Rattle.lisp_reader.proofs.lists.list_of.Goals as goal

pub returns : goal.returns
returns c =
    let some : ¬ (vec_len c.args.items ≡ 0) = eqb-false (vec_len c.args.items) 0 (sym c.is_empty.ensures ∙ c.if-is_empty.false) in
    list_of-some (map datum_of c.args.items.items) c.new.result c.in_ok-prepended.field-0 c.new.ensures c.in_ok-prepended.ensures
    (λ e. some (omega (arith, sym (length-map c.args.items.items datum_of) ∙ e, c.args.items.ok.0)))
