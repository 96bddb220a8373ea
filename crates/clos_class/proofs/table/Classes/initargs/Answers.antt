use Rattle.std.proofs.Common.{Some, None, ap, sym, ◌∙◌}
use Rattle.std.specs.Prelude.{option_copied}
use Rattle.clos_hierarchy.specs.Classes.{list_in, listing}
use Rattle.clos_class.specs.SlotsView.{direct_slots}
use Rattle.clos_class.proofs.Looked.{found_initargs}
use Rattle.clos_class.proofs.table.Classes.initargs.Goals as goal

pub returns-in-None : goal.returns-in-None
returns-in-None c =
    found_initargs (direct_slots c.args.self.now.slots) (list_in (listing c.args.self.now.table.classes c.args.class.0)) c.args.slot.now None
    (ap option_copied (sym c.in-None.is) ∙ c.slot.ensures)

pub returns-in-Some : goal.returns-in-Some
returns-in-Some c =
    c.as_slice.ensures
    ∙ found_initargs (direct_slots c.args.self.now.slots) (list_in (listing c.args.self.now.table.classes c.args.class.0)) c.args.slot.now (Some c.in-Some.found.now)
    (ap option_copied (sym c.in-Some.is) ∙ c.slot.ensures)
