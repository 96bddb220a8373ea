-- The numbers of predefined classes.
use Rattle.std.proofs.Common.{◌≡◌, refl}
use Rattle.std.specs.Prelude.{codes}
use Rattle.clos_hierarchy.specs.Initial.{number}

pub standard_object : number (codes "STANDARD-OBJECT") ≡ 1
standard_object = refl

pub integer : number (codes "INTEGER") ≡ 2
integer = refl

pub null : number (codes "NULL") ≡ 6
null = refl

pub symbol : number (codes "SYMBOL") ≡ 7
symbol = refl

pub cons : number (codes "CONS") ≡ 10
cons = refl

pub string : number (codes "STRING") ≡ 11
string = refl

pub standard_generic_function : number (codes "STANDARD-GENERIC-FUNCTION") ≡ 16
standard_generic_function = refl

pub standard_class : number (codes "STANDARD-CLASS") ≡ 18
standard_class = refl

pub built_in_class : number (codes "BUILT-IN-CLASS") ≡ 19
built_in_class = refl

pub standard_method : number (codes "STANDARD-METHOD") ≡ 20
standard_method = refl
