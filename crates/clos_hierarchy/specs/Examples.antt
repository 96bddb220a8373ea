-- Numbers of predefined classes.
use Rattle.std.specs.Prelude.{◌≡◌, Some, codes, refl}
use Rattle.clos_hierarchy.specs.Classes.{named}
use Rattle.clos_hierarchy.specs.Initial.{fixed_name, number, predefined}

integer : named predefined (fixed_name (codes "INTEGER")) ≡ Some (number (codes "INTEGER"))
integer = refl

standard_method : named predefined (fixed_name (codes "STANDARD-METHOD")) ≡ Some (number (codes "STANDARD-METHOD"))
standard_method = refl
