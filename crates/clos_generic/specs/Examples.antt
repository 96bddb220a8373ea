-- A few definitions and methods.
use Rattle.std.specs.Prelude.{◌≡◌, ℕ, false, List, [], ◌∷◌, Some, None, codes, refl}
use Rattle.lisp_data.specs.Name.{Name}
use Rattle.lisp_data.specs.Print.{Specializer, on_class, on_eql}
use Rattle.lisp_data.specs.Value.{string}
use Rattle.clos_forms.specs.declared.operator.FunctionName.{FunctionName}
use Rattle.clos_forms.specs.declared.operator.FunctionName.TheVariants.{Symbol, Setf}
use Rattle.clos_method.specs.System.{system_shape}
use Rattle.clos_method.specs.declared.method.Method.{Method}
use Rattle.clos_method.specs.declared.method.MethodBody.TheVariants.{Reader}
use Rattle.clos_method.specs.declared.origin.Origin.TheVariants.{Accessor, Defmethod}
use Rattle.clos_method.specs.declared.shape.Shape.{Shape}
use Rattle.clos_method.specs.declared.system.SystemFunction.TheVariants.{SlotMissing}
use Rattle.clos_generic.specs.Accessors.{accessors_below, accessors_there}
use Rattle.clos_generic.specs.Changes.{Changes, changes_refusal}
use Rattle.clos_generic.specs.Fault.{addition_refusal, definition_refusal, incongruent, removal_refusal, no_such_method, table_limit, unsupported}
use Rattle.clos_generic.specs.Initial.{initial, standard}
use Rattle.clos_generic.specs.Table.{Table, methods_of, named, number, with_definition, with_method, without_method}
use Rattle.clos_generic.specs.declared.options.Options.{Options}

abbrev name : List ℕ → Name
name text = record { text = text; keyword = false }

abbrev speak : FunctionName
speak = Symbol (name (codes "SPEAK"))

abbrev slot_missing : FunctionName
slot_missing = Symbol (name (codes "SLOT-MISSING"))

-- so many required parameters
abbrev of_required : ℕ → Shape
of_required n = record { required = n; optional = 0; rest = false; keys = None }

abbrev taking : Shape → Options
taking shape = record { shape = shape; precedence = []; combination = standard }

abbrev on : Specializer → ℕ → Method
on s n = record { generic = record { 0 = 9 }; qualifiers = []; specializers = s ∷ []; shape = of_required n; origin = Defmethod; body = Reader (name (codes "A")) }

slot_missing_is_there : named (initial 4 4) slot_missing ≡ Some 6
slot_missing_is_there = refl

setter_is_not : named (initial 4 4) (Setf (name (codes "SLOT-MISSING"))) ≡ None
setter_is_not = refl

next_number : number (initial 4 4) speak ≡ 9
next_number = refl

system_function_stays : definition_refusal (initial 4 4) slot_missing (taking (system_shape SlotMissing)) ≡ Some unsupported
system_function_stays = refl

congruence_first : definition_refusal (initial 4 4) slot_missing (taking (of_required 1)) ≡ Some incongruent
congruence_first = refl

no_room : definition_refusal (initial 0 4) speak (taking (of_required 1)) ≡ Some table_limit
no_room = refl

-- with SPEAK and one method on a class
abbrev speaking : Table
speaking = with_method 9 (on (on_class 1) 1) (with_definition speak (taking (of_required 1)) (initial 4 4))

first_method : methods_of speaking 9 ≡ 9 ∷ []
first_method = refl

replaced : methods_of (with_method 9 (on (on_class 1) 1) speaking) 9 ≡ 10 ∷ []
replaced = refl

beside : methods_of (with_method 9 (on (on_class 2) 1) speaking) 9 ≡ 9 ∷ 10 ∷ []
beside = refl

removed : methods_of (without_method 9 9 speaking) 9 ≡ []
removed = refl

removed_twice : removal_refusal (without_method 9 9 speaking) 9 9 ≡ Some no_such_method
removed_twice = refl

string_by_identity : addition_refusal speaking 9 (on (on_eql (string [])) 1) ≡ Some unsupported
string_by_identity = refl

two_parameters : addition_refusal speaking 9 (on (on_class 1) 2) ≡ Some incongruent
two_parameters = refl

-- the reader of a class that is called SPEAK
abbrev reader : ℕ → Method
reader c = record (on (on_class c) 1) { origin = Accessor (record { 0 = c }) }

-- with readers of the classes 1, 2 and 1 again
abbrev reading : Table
reading = with_method 9 (reader 1) (with_method 9 (reader 2) (with_method 9 (reader 1) (with_definition speak (taking (of_required 1)) (initial 4 4))))

-- two readers came with the class 1
readers_made : accessors_below reading.methods 1 12 ≡ 9 ∷ 11 ∷ []
readers_made = refl

-- the second replaced the first
readers_there : accessors_there reading 1 ≡ 11 ∷ []
readers_there = refl

-- a method of the program in its place is no accessor
replaced_by_the_program : accessors_there (with_method 9 (on (on_class 1) 1) reading) 1 ≡ []
replaced_by_the_program = refl

-- SPEAK with a method of so many required parameters, all at once
abbrev with_first : ℕ → Changes
with_first n = record {
  removals = [];
  definitions = (record { name = speak; options = taking (of_required 1) }) ∷ [];
  additions = (record { generic = record { 0 = 9 }; shape = of_required n; likeness = None }) ∷ [];
}

all_at_once : changes_refusal (initial 4 4) (with_first 1) ≡ None
all_at_once = refl

not_congruent_then : changes_refusal (initial 4 4) (with_first 2) ≡ Some incongruent
not_congruent_then = refl
