use Rattle.std.proofs.Common.{◌∙◌}
use Rattle.clos_store.proofs.Updating.{told_of_slots}
use Rattle.clos_store.proofs.instance.Instance.discarded.Goals as goal

pub returns : goal.returns
returns c =
    told_of_slots _ c.args.self.now c.self.inside.class.0 c.self.inside.layout.locals c.as_slice-names.result.now c.args.layout.now.locals c.as_slice-2.result.now
    c.self.inside.slots.items c.as_slice.result.now c.self.inside.layout.shared c.self.view_is c.self.invariant
    (c.as_slice-names.ensures ∙ c.locals.ensures) c.as_slice.ensures.value (c.as_slice-2.ensures ∙ c.locals-2.ensures)
    c.in_ok-added.ensures c.in_ok-discarded.ensures c.in_ok-values.ensures
