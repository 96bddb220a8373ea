use Rattle.std.proofs.Common.{subst}
use Rattle.lisp_data.specs.Name.{Name}
use Rattle.clos_forms.specs.declared.operator.FunctionName.TheVariants.{Symbol}
use Rattle.clos_world.specs.World.{seen}
use Rattle.clos_definition.specs.Refusal.{Allows, table_refusal}
use Rattle.clos_definition.proofs.class.reserve_effect.Goals as goal

pub returns-clause-allows : goal.returns-clause-allows
returns-clause-allows c =
    subst (λ (n : Name). Allows (table_refusal (Symbol n) c.args.effect.now.changes (seen c.args.world.now)) c.reserve.result) c.in_ok-copy.ensures c.reserve.ensures.allows
