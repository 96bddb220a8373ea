use Rattle.clos_eval.specs.clos_machine.clos_world.World.{seen}
use Rattle.clos_definition_forms.specs.Dependents.{with_change}
use Rattle.clos_making.proofs.clos_effects.Noting.{same_as}
use Rattle.clos_definition_forms.proofs.Watched.{change_not_made}
use Rattle.clos_definition_forms.proofs.dependents.change_at.Goals as goal

pub returns-in_default-clause-answers : goal.returns-in_default-clause-answers
returns-in_default-clause-answers c =
    change_not_made (with_change c.args.change c.args.metaobject c.args.place (seen c.args.world.now)) (seen c.args.world.now)
    (seen c.change_watchers.new.world) c.args.steps.now c.in_default.ensures.err

pub returns-in_default-clause-undone : goal.returns-in_default-clause-undone
returns-in_default-clause-undone c = same_as (seen c.args.world.now) (seen c.change_watchers.new.world) c.in_default.ensures.err
