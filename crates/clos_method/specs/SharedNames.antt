-- Names that are shared, or none.
use Rattle.std.specs.Prelude.{List, [], Option, Some, None}
use Rattle.std.specs.declared.alloc.Global.{Global}
use Rattle.lisp_data.specs.Name.{Name}
use Rattle.std.specs.declared.rc.Rc.{Rc}
use Rattle.std.specs.declared.vec.Vec.{Vec}

abbrev pub names_in : Option (Rc (Vec Name Global) Global) → List Name
names_in None = []
names_in (Some names) = names.value.items
