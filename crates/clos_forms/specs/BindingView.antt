-- The variables that the code's entries stand for.
use Rattle.std.specs.Prelude.{option_map}
use Rattle.lisp_data.specs.DatumView.{datum_of}
use Rattle.clos_forms.specs.Binding as of
use Rattle.clos_forms.specs.declared.binding.Entry.{Entry}
use Rattle.clos_forms.specs.declared.binding.Counter.{Counter}

-- the name and, where there is one, the datum to which the code refers
abbrev pub entry_of : Entry → of.Entry
entry_of e = record { name = e.name.now; init = option_map (λ d. datum_of d.now) e.init }

-- the name and the data to which the code refers
abbrev pub counter_of : Counter → of.Counter
counter_of c = record { name = c.name.now; count = datum_of c.count.now; result = option_map (λ d. datum_of d.now) c.result }
