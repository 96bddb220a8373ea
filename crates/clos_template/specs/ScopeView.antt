-- What the code's names with their values stand for.
use Rattle.lisp_data.specs.DatumView.{datum_of}
use Rattle.clos_template.specs.Scope.{Binding, bound}
use Rattle.clos_template.specs.declared.scope.Variable.{Variable}

-- the same name, with the datum that the code's stands for
abbrev pub binding_of : Variable → Binding
binding_of v = bound v.name (datum_of v.value)
