-- What makes methods.
use Rattle.std.specs.Prelude.{ℕ, ◌==◌, Bool, true, false}
use Rattle.clos_method.specs.declared.origin.Origin.{Origin}
use Rattle.clos_method.specs.declared.origin.Origin.TheVariants.{System, Defmethod, MethodOption, Accessor}

-- whether it is a :method option of a defgeneric (7.7)
abbrev pub is_method_option : Origin → Bool
is_method_option System = false
is_method_option Defmethod = false
is_method_option MethodOption = true
is_method_option (Accessor class) = false

-- whether it is an accessor of a slot of this class (7.5.2)
abbrev pub is_accessor_of : ℕ → Origin → Bool
is_accessor_of c System = false
is_accessor_of c Defmethod = false
is_accessor_of c MethodOption = false
is_accessor_of c (Accessor class) = class.0 == c
