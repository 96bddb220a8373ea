use Rattle.std.proofs.Common.{◌≡◌, drop, map}
use Rattle.lisp_data.specs.DatumView.{datum_of}
use Rattle.clos_lambda.specs.Lists.{before}
use Rattle.clos_template.specs.Function.{elements_of_all}
use Rattle.clos_template.proofs.function.elements_of_all.Given as goal

abbrev pub invariant-loop-list : goal.invariant-loop-list
invariant-loop-list l =
    before (map datum_of l.all.items) (elements_of_all (map datum_of (drop l.list-index l.lists))) ≡ elements_of_all (map datum_of l.lists)
