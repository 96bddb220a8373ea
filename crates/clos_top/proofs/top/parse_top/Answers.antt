use Rattle.lisp_data.specs.DatumView.{datum_of}
use Rattle.clos_top.specs.Laws.{AreSpecialized}
use Rattle.clos_top.specs.WellFormed.{AreWellFormed}
use Rattle.clos_top.proofs.Laws.{specialized_cases}
use Rattle.clos_top.proofs.WellFormed.{well_formed_cases}
use Rattle.clos_top.proofs.Cases.{given_so}
use Rattle.clos_top.proofs.top.parse_top.Goals as goal

pub returns-clause-specialized : goal.returns-clause-specialized
returns-clause-specialized c = given_so AreSpecialized specialized_cases c.parse_any.result (datum_of c.args.datum.now) c.parse_any.ensures

pub returns-clause-well_formed : goal.returns-clause-well_formed
returns-clause-well_formed c = given_so AreWellFormed well_formed_cases c.parse_any.result (datum_of c.args.datum.now) c.parse_any.ensures
