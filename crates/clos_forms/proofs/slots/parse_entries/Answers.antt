use Rattle.std.proofs.Common.{◌∷◌, Some, map, ap, sym, ◌∙◌}
use Rattle.clos_forms.specs.Binding.{each}
use Rattle.clos_forms.specs.BoundView.{bound_slot}
use Rattle.clos_forms.specs.Fault.{◌>>=◌}
use Rattle.lisp_data.specs.DatumView.{datum_of}
use Rattle.clos_forms.specs.Slots.{slot_in}
use Rattle.clos_forms.proofs.Parts.{after, failed, fault_passes, goes_on, ended}
use Rattle.clos_forms.proofs.slots.parse_entries.Goals as goal

pub returns-in-Err : goal.returns-in-Err
returns-in-Err c =
    failed c.in-Err.fault (map bound_slot c.loop-first.slots.items)
    (slot_in (datum_of c.in-Some.first.now) >>= λ x. each slot_in c.in-Some.others.now >>= λ ys. Some (x ∷ ys))
    (each slot_in c.args.elements.now)
    (ap (λ l. after (map bound_slot c.loop-first.slots.items) (each slot_in l)) (sym c.in-Some.ensures) ∙ c.loop-first.invariant)
    (fault_passes c.in-Err.fault (slot_in (datum_of c.in-Some.first.now)) (λ x. each slot_in c.in-Some.others.now >>= λ ys. Some (x ∷ ys)) c.in-Err.ensures)

pub loop-first-preserved : goal.loop-first-preserved
loop-first-preserved c =
    ap (λ xs. after (map bound_slot xs) (each slot_in c.in-Some.others.now)) c.in_ok-push-in-Ok.ensures.items
    ∙ goes_on bound_slot c.loop-first.slots.items c.in-Ok.slot (each slot_in c.loop-first.rest.now) (each slot_in c.in-Some.others.now)
    (each slot_in c.args.elements.now) c.loop-first.invariant
    (ap (each slot_in) c.in-Some.ensures
    ∙ ap (λ o. o >>= λ x. each slot_in c.in-Some.others.now >>= λ ys. Some (x ∷ ys)) c.in-Ok.ensures)

pub returns : goal.returns
returns c =
    ended (map bound_slot c.loop-first.slots.items) (each slot_in c.loop-first.rest.now) (each slot_in c.args.elements.now) c.loop-first.invariant
    (ap (each slot_in) c.in_default.ensures)
