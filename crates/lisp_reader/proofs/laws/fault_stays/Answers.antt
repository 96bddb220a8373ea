use Rattle.lisp_reader.proofs.OnMore.{fault-stays}
use Rattle.lisp_reader.proofs.laws.fault_stays.Goals as goal

pub returns : goal.returns
returns c = fault-stays
