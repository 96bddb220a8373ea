use Rattle.std.proofs.Common.{ap, subst, ◌∙◌}
use Rattle.clos_machine.specs.clos_world.World.{seen}
use Rattle.clos_machine.specs.clos_world.clos_hierarchy.Classes.{named}
use Rattle.clos_machine.specs.clos_world.clos_hierarchy.Table.{Table}
use Rattle.clos_machine.specs.clos_world.clos_class.Table.{Table as Classes}
use Rattle.clos_machine.specs.clos_meaning.Objects.{class_found}
use Rattle.clos_machine.specs.Machine.{Designates}
use Rattle.clos_objects.proofs.classes.found.Goals as goal

pub returns-in-Some : goal.returns-in-Some
returns-in-Some c =
    subst (λ o. Designates (class_found (seen c.args.world.now).classes c.args.name.now o) c.instantiate.result)
    (c.in-Some.ensures ∙ ap (λ (t : Table). named t.classes c.args.name.now) (c.hierarchy.ensures ∙ ap (λ (t : Classes). t.table) c.classes.ensures)) c.instantiate.ensures
