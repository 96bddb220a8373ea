-- The variable that an entry of the table stands for.
use Rattle.std.specs.Prelude.{Option, option_map}
use Rattle.lisp_data.specs.Name.{Name}
use Rattle.lisp_data.specs.Value.{Val}
use Rattle.lisp_data.specs.ValueView.{value_of}
use Rattle.lisp_data.specs.declared.value.Value.{Value}

abbrev pub global_of : Name × Option Value → Name × Option Val
global_of e = (e.0, option_map value_of e.1)
