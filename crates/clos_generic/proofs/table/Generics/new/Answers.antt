use Rattle.std.proofs.Common.{ap, ◌∙◌}
use Rattle.clos_method.specs.System.{system_functions}
use Rattle.clos_generic.specs.Initial.{with_systems}
use Rattle.clos_generic.proofs.table.Generics.new.Goals as goal

pub returns : goal.returns
returns c = c.in_ok-push_all_of_system.ensures ∙ ap (with_systems system_functions) c.empty-generics.ensures
