use Rattle.std.proofs.Common.{arith}
use Rattle.clos_definition.proofs.Notices.{few_definitions}
use Rattle.clos_definition.proofs.effect.add_possible.Goals as goal

pub tell_definitions-requires : goal.tell_definitions-requires
tell_definitions-requires c =
    omega (arith, few_definitions c.definitions-definitions.result.now c.args.generics.now.table, c.in_ok-prepare-2.ensures.ok)
