use Rattle.std.proofs.Common.{refl}
use Rattle.clos_machine.specs.clos_world.World.{seen}
use Rattle.clos_effects.proofs.Hearing.{unheard}
use Rattle.clos_making.proofs.made.remove_evaluated.Goals as goal

pub returns-in_default-clause-heard : goal.returns-in_default-clause-heard
returns-in_default-clause-heard g c =
    let told = g.D.Dependents.told c.args.dependents.now in unheard told told (seen c.args.world.now) (seen c.args.world.now) refl refl

pub returns-in_default-value_or_nil-clause-heard : goal.returns-in_default-value_or_nil-clause-heard
returns-in_default-value_or_nil-clause-heard g c =
    let told = g.D.Dependents.told c.args.dependents.now in unheard told told (seen c.args.world.now) (seen c.args.world.now) refl refl

pub returns-in-Err-clause-heard : goal.returns-in-Err-clause-heard
returns-in-Err-clause-heard g c =
    let told = g.D.Dependents.told c.args.dependents.now in unheard told told (seen c.args.world.now) (seen c.args.world.now) refl refl
