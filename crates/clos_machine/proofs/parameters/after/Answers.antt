use Rattle.std.proofs.Common.{◌∙◌, ap, sym, map}
use Rattle.std.proofs.lemmas.List.{take_rest, drop-map}
use Rattle.lisp_data.specs.ValueView.{value_of}
use Rattle.clos_machine.proofs.parameters.after.Goals as goal

pub returns : goal.returns
returns c = ap (map value_of) (take_rest c.args.values.now c.args.count) ∙ sym (drop-map value_of c.args.count c.args.values.now)
