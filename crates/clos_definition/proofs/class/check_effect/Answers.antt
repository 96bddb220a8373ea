use Rattle.std.proofs.Common.{subst}
use Rattle.lisp_data.specs.Name.{Name}
use Rattle.clos_forms.specs.declared.operator.FunctionName.TheVariants.{Symbol}
use Rattle.clos_world.specs.World.{seen}
use Rattle.clos_definition.specs.Refusal.{Allows, table_refusal}
use Rattle.clos_definition.proofs.class.check_effect.Goals as goal

pub returns : goal.returns
returns c =
    subst (λ (n : Name). Allows (table_refusal (Symbol n) c.args.effect.now.changes (seen c.args.world.now)) c.check.result) c.in_ok-copy.ensures c.check.ensures
