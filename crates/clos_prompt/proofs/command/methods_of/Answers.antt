use Rattle.lisp_data.specs.DatumView.{datum_of}
use Rattle.clos_commentary.specs.clos_system.clos_world.World.{seen}
use Rattle.clos_prompt.proofs.Asking.{no_call}
use Rattle.clos_prompt.proofs.command.methods_of.Goals as goal

pub returns-in_ok-from_slice-in-None : goal.returns-in_ok-from_slice-in-None
returns-in_ok-from_slice-in-None c line rest asks n =
    no_call (seen c.args.world.now) (datum_of c.args.call.now) c.in-None.ensures.none line rest n
