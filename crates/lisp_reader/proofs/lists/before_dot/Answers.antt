use Rattle.std.proofs.Common.{◌≤◌, ◌∙◌, arith, map}
use Rattle.lisp_data.specs.Datum.{nesting_in}
use Rattle.lisp_data.specs.DatumView.{datum_of}
use Rattle.lisp_data.specs.Limits.{most_nesting}
use Rattle.lisp_reader.proofs.OnNesting.{before-nesting}
use Rattle.lisp_reader.proofs.lists.before_dot.Goals as goal

pub prepended-requires : goal.prepended-requires
prepended-requires c =
    let front : nesting_in c.args.dot.front ≤ most_nesting = omega (arith, c.requires.tail) in
    before-nesting (map datum_of c.args.items.items) c.in_ok-front.front c.args.dot.front most_nesting c.requires.front (c.in_ok-front.ensures ∙ c.front.ensures) front
