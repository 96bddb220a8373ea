use Rattle.std.proofs.Common.{sym, ◌∙◌}
use Rattle.clos_definition.proofs.Dropped.{none_removed}
use Rattle.clos_definition.proofs.removal.remove_in.Goals as goal

pub returns-then-not-has_method-clause-table : goal.returns-then-not-has_method-clause-table
returns-then-not-has_method-clause-table c =
    sym (none_removed c.args.function.0 c.args.method.0 c.args.generics.now.table (sym c.has_method.ensures ∙ c.if-not-has_method.true))
