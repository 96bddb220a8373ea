-- The parameters that the code's stand for.
use Rattle.lisp_data.specs.Name.{Name}
use Rattle.lisp_data.specs.ValueView.{value_of}
use Rattle.clos_meaning.specs.Parameters.{Source, argument, refused, init}
use Rattle.clos_machine.specs.declared.parameters.Parameter.{Parameter}
use Rattle.clos_machine.specs.declared.parameters.Origin.{Origin}
use Rattle.clos_machine.specs.declared.parameters.Origin.TheVariants as origin

abbrev pub source_of : Origin → Source
source_of (origin.Argument v) = argument (value_of v)
source_of (origin.Refused c) = refused c
source_of (origin.Init f) = init f

abbrev pub parameter_of : Parameter → Name × Source
parameter_of p = (p.name, source_of p.origin)
