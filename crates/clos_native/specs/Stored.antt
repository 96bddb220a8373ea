-- The functions that a host stored, by their names.
use Rattle.std.specs.Prelude.{List, [], ◌∷◌, Option, Some, None, if◌then◌else◌}
use Rattle.lisp_data.specs.Name.{Name, same_name}
use Rattle.clos_native.specs.declared.native.Native.{Native}

-- of two with one name the first is called
abbrev pub native_named : {I : Type 0} {F : I → Type 0} {g : _} → List (Native I F g) → Name → Option (Native I F g)
native_named [] name = None
native_named (f ∷ fs) name = if same_name f.name name then Some f else native_named fs name
