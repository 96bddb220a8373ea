use Rattle.clos_generic.specs.Table.{is_alike_at}
use Rattle.clos_generic.proofs.Places.{found_somewhere, nothing_there}
use Rattle.clos_generic.proofs.methods.find_alike.Goals as goal

pub returns-in-None : goal.returns-in-None
returns-in-None c = nothing_there (is_alike_at c.args.methods.now c.args.qualifiers.now c.args.specializers.now) c.args.ids.now c.in-None.ensures

pub returns-in-Some : goal.returns-in-Some
returns-in-Some c =
    found_somewhere (is_alike_at c.args.methods.now c.args.qualifiers.now c.args.specializers.now) c.args.ids.now c.in-Some.place _ c.in-Some.ensures
