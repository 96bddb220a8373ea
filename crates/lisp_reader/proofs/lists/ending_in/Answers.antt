use Rattle.std.proofs.Common.{◌<◌, arith, map, refl}
use Rattle.lisp_data.specs.Datum.{nesting_in}
use Rattle.lisp_data.specs.DatumView.{datum_of}
use Rattle.lisp_data.specs.Limits.{most_nesting}
use Rattle.lisp_reader.proofs.OnNesting.{before-nesting}
use Rattle.lisp_reader.proofs.lists.ending_in.Goals as goal

pub prepended-requires : goal.prepended-requires
prepended-requires c =
    let rear : nesting_in c.in-List.rest < most_nesting = rw c.in-List.is at c.requires.tail in
    before-nesting (map datum_of c.args.items.items) c.in-List.rest c.in-List.rest most_nesting c.requires.front refl (omega (arith, rear))
