use Rattle.std.proofs.Common.{ℕ, ◌<◌, ◌≤◌, OnOk, length, ap, sym, subst}
use Rattle.clos_definition.specs.clos_watch.Watching.{times_told}
use Rattle.clos_meaning.specs.clos_world.World.{seen}
use Rattle.clos_definition.proofs.clos_world.Heard.{room_made, watching_kept}
use Rattle.clos_effects.proofs.telling.prepare_to_tell.Goals as goal

pub returns-clause-ready : goal.returns-clause-ready
returns-clause-ready g c =
    subst (λ x. OnOk c.prepare_all.result ((p : ℕ) → p < length (g.D.Dependents.names c.prepare_all.new.self)
    → times_told x c.args.notices.now p ≤ g.D.Dependents.room c.prepare_all.new.self p)) (sym (watching_kept c.args.world.now.hearing))
    c.prepare_all.ensures.ok

pub returns-clause-seen : goal.returns-clause-seen
returns-clause-seen g c =
    let w = seen c.args.world.now in ap (λ h. record w { hearing = h }) (room_made c.args.world.now.hearing c.prepare.new.self c.prepare.ensures.items)

pub returns-in_err-prepare-clause-seen : goal.returns-in_err-prepare-clause-seen
returns-in_err-prepare-clause-seen g c =
    let w = seen c.args.world.now in ap (λ h. record w { hearing = h }) (room_made c.args.world.now.hearing c.prepare.new.self c.prepare.ensures.items)
