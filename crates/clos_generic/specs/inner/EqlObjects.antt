-- Of which objects the methods of a function have eql specializers.
use Rattle.std.specs.Prelude.{◌≡◌, ◌==◌, ◌&&◌, ◌||◌, ℕ, Bool, true, false, List, Option, Some, None, is_some, if◌then◌else◌, slice_get}
use Rattle.std.specs.HashMap.{get}
use Rattle.lisp_data.specs.Keys.{same_value}
use Rattle.lisp_data.specs.Print.{Specializer}
use Rattle.lisp_data.specs.ValueView.{value_of}
use Rattle.lisp_data.specs.declared.value.Value.{Value}
use Rattle.clos_method.specs.Applicable.{has_eql_at, is_eql_to}
use Rattle.clos_method.specs.declared.method.Method.{Method}
use Rattle.clos_generic.specs.TableView.{functions_in, is_method_of}
use Rattle.clos_generic.specs.declared.eql_objects.EqlObjects.{EqlObjects}
use Rattle.clos_generic.specs.declared.eql_objects.Objects.{Objects}
use Rattle.clos_generic.specs.declared.function.Function.{Function}

-- whether both stand for one value
abbrev pub are_same : Value → Value → Bool
are_same v w = same_value (value_of v) (value_of w)

-- whether an object is among these, or may be
abbrev pub has_object : Objects → Value → Bool
has_object o v = o.any && (o.lacking || is_some (get are_same o.methods v))

-- those of a place
abbrev pub noted_at : EqlObjects → ℕ → Objects
noted_at e place = if place == 0 then e.first else (if place == 1 then e.second else e.later)

-- whether an object is noted for a place
abbrev pub is_noted : EqlObjects → ℕ → Value → Bool
is_noted e place v = has_object (noted_at e place) v

-- whether it is in a function
abbrev pub is_noted_in : Option Function → ℕ → Value → Bool
is_noted_in None place v = false
is_noted_in (Some f) place v = is_noted f.eql_objects place v

-- Of these each object of an eql one is noted for its place.
abbrev pub NotesEql : List Specializer → (ℕ → Value → Bool) → Type 0
NotesEql specializers noted = (place : ℕ) (v : Value) → is_eql_to (value_of v) (slice_get specializers place) ≡ true → noted place v ≡ true

-- What is noted in each function is still noted in it.
abbrev pub KeepNotes : List Function → List Function → Type 0
KeepNotes before after =
    (place g : ℕ) (v : Value) → is_noted_in (slice_get before g) place v ≡ true → is_noted_in (slice_get after g) place v ≡ true

-- In a function each object is noted of which one of its methods has an eql specializer.
abbrev pub AreNoted : List Function → List Method → Type 0
AreNoted functions methods =
    (g place n : ℕ) (v : Value) → is_method_of (functions_in functions) g n ≡ true → has_eql_at methods place (value_of v) n ≡ true
    → is_noted_in (slice_get functions g) place v ≡ true
