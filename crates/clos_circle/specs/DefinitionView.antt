-- The direct superclasses of classes after a definition.
use Rattle.std.specs.Prelude.{List}
use Rattle.lisp_data.specs.Name.{Name}
use Rattle.clos_circle.specs.Circle.{direct}
use Rattle.clos_circle.specs.declared.definition.Definition.{Definition}

abbrev pub direct_of : Definition → Name → List Name
direct_of d = direct d.hierarchy.now.classes d.name.now d.above.now
