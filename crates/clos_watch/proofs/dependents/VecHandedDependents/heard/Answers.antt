use Rattle.std.proofs.Common.{Some, ap, sym, ◌∙◌}
use Rattle.std.specs.Prelude.{slice_get}
use Rattle.clos_watch.proofs.AtPlace.{past, told_nowhere, told_there}
use Rattle.clos_watch.proofs.Handed.{index_get}
use Rattle.clos_watch.proofs.dependents.VecHandedDependents.heard.Goals as goal

pub returns-in-Some : goal.returns-in-Some
returns-in-Some g c =
    let l = c.in-Some.ensures.lookup in
    c.heard.ensures
    ∙ sym (told_there _ c.args.self.now.items c.args.place c.in-Some.handed.now
    (ap (λ ds. slice_get ds c.args.place) (sym c.deref.ensures.value) ∙ index_get c.deref.result.now c.args.place c.in-Some.handed.now l.3.0
    ∙ ap Some (sym l.1)))

pub returns-in-None : goal.returns-in-None
returns-in-None g c =
    sym (told_nowhere _ c.args.self.now.items c.args.place
    (ap (λ ds. slice_get ds c.args.place) (sym c.deref.ensures.value) ∙ past c.deref.result.now c.args.place c.in-None.ensures.lookup.3))
