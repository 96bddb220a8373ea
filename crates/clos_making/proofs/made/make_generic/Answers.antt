use Rattle.std.proofs.Common.{ap, refl}
use Rattle.clos_machine.specs.clos_world.World.{seen}
use Rattle.clos_making.proofs.Hearing.{heard_at}
use Rattle.clos_effects.proofs.Hearing.{unheard}
use Rattle.clos_making.proofs.made.make_generic.Goals as goal

pub returns-in-Ok-clause-heard : goal.returns-in-Ok-clause-heard
returns-in-Ok-clause-heard g c =
    heard_at (g.D.Dependents.told c.args.dependents.now) (g.D.Dependents.told c.take_effect.new.dependents) (seen c.args.world.now)
    (seen c.prepare_generic.new.world) (seen c.take_effect.new.world) c.in-Ok.ensures.same c.take_effect.ensures.heard

pub returns-in-Err-clause-heard : goal.returns-in-Err-clause-heard
returns-in-Err-clause-heard g c =
    let told = g.D.Dependents.told c.args.dependents.now in
    unheard told told (seen c.args.world.now) (seen c.prepare_generic.new.world) refl (ap (λ x. x.hearing.notices) c.in-Err.ensures.same)
