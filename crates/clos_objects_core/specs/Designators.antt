-- What stands for the specializers of a method that is looked for, as the code has it.
use Rattle.std.specs.Prelude.{◌≡◌, List, map, Result, Ok, Err}
use Rattle.lisp_data.specs.Print.{Specializer}
use Rattle.lisp_data.specs.ValueView.{value_of}
use Rattle.clos_method.specs.Specializer.{specializer_of}
use Rattle.clos_method.specs.declared.specializer.Specializer as code
use Rattle.clos_machine.specs.clos_world.declared.condition.Condition.{Condition}
use Rattle.clos_machine.specs.clos_world.declared.condition.Stop.{Stop}
use Rattle.clos_machine.specs.clos_world.declared.condition.Stop.TheVariants.{Refused, Storage}
use Rattle.clos_machine.specs.clos_meaning.FindMethod as find
use Rattle.clos_objects_core.specs.declared.find_method.Designator.{Designator}
use Rattle.clos_objects_core.specs.declared.find_method.Designator.TheVariants.{Class, Named, Eql}

abbrev pub designator_of : Designator → find.Designator
designator_of (Class c) = find.class_itself c.0
designator_of (Named name) = find.class_of_name name
designator_of (Eql v) = find.eql_to (value_of v)

abbrev pub designators_of : List Designator → List find.Designator
designators_of ds = map designator_of ds

-- this specializer, or the condition in its place, unless memory ran out
abbrev pub Specializes : Result Specializer Condition → Result code.Specializer Stop → Type 0
Specializes x (Ok s) = x ≡ Ok (specializer_of s)
Specializes x (Err (Refused c)) = x ≡ Err c
Specializes x (Err Storage) = Unit {0}

-- the same of all of them
abbrev pub SpecializesAll : Result (List Specializer) Condition → Result (List Specializer) Stop → Type 0
SpecializesAll x (Ok ss) = x ≡ Ok ss
SpecializesAll x (Err (Refused c)) = x ≡ Err c
SpecializesAll x (Err Storage) = Unit {0}
