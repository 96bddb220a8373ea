use Rattle.lisp_data.specs.DatumView.{datum_of}
use Rattle.clos_forms.specs.Grammar.{full_room}
use Rattle.clos_forms.proofs.WellFormed.{parsed_form}
use Rattle.clos_forms.proofs.tree.parse_form_within.Goals as goal

pub returns-clause-well_formed : goal.returns-clause-well_formed
returns-clause-well_formed c = parsed_form full_room c.args.context (datum_of c.args.datum.now) c.tree_at.result c.tree_at.ensures
