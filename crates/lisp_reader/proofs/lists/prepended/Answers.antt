use Rattle.std.proofs.Common.{◌≡◌, ◌++◌, arith, map, length, sym, ◌∙◌, ap, vec_len}
use Rattle.std.proofs.lemmas.List.{nil_from_length}
use Rattle.lisp_data.specs.Datum.{elements, list_from}
use Rattle.lisp_data.specs.DatumView.{datum_of}
use Rattle.lisp_reader.proofs.OnLists.{list_from-elements}
use Rattle.lisp_reader.proofs.OnNesting.{last-nesting}
use Rattle.lisp_reader.proofs.lists.prepended.Goals as goal

pub returns : goal.returns
returns c =
    let none : vec_len c.loop-item.items ≡ 0 = c.in_default.ensures.cases.0 in
    let empty : length c.loop-item.items.items ≡ 0 = omega (arith, none, c.loop-item.items.ok.0) in
    let rest = nil_from_length c.loop-item.items.items empty in
    let all : elements c.loop-item.list ≡ map datum_of c.args.items.items ++ elements c.args.list = rw rest at c.loop-item.invariant in
    sym (list_from-elements c.loop-item.list) ∙ ap list_from all

pub longer-requires : goal.longer-requires
longer-requires c =
    last-nesting c.loop-item.items.items c.pop.new.self.items c.in-Some.item c.loop-item.list _ _ c.in-Some.ensures.items c.loop-item.invariant c.requires
