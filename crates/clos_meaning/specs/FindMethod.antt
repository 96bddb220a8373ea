-- The method of a generic function that has some qualifiers and specializers (HyperSpec 7.7 find-method).
use Rattle.std.specs.Prelude.{ℕ, codes, Bool, true, false, List, [], ◌∷◌, Option, Some, None, Result, Ok, Err, if◌then◌else◌, slice_get}
use Rattle.lisp_data.specs.Name.{Name}
use Rattle.lisp_data.specs.Print.{Specializer, on_class, on_eql}
use Rattle.lisp_data.specs.Value.{Val, Vals, symbol, list, class, generic, method, nil, cons}
use Rattle.clos_forms.specs.clos_names.Names.{is_called}
use Rattle.clos_world.specs.clos_class.Table as classes
use Rattle.clos_world.specs.clos_generic.Table.{Function, Table, find_method}
use Rattle.clos_world.specs.Class.{named}
use Rattle.clos_world.specs.FunctionName.{called_value}
use Rattle.clos_world.specs.declared.condition.Condition.{Condition}
use Rattle.clos_world.specs.declared.condition.ConditionKind.TheVariants.{NoSuchMethod}
use Rattle.clos_meaning.specs.ClassFunctions.{Answer, named_or_undefined, symbol_in, wrong_number, wrong_type}
use Rattle.clos_meaning.specs.Outcome.{is_true}

-- ---- what stands for a specializer: a class, the name of one, or the list of EQL and an object

-- one of these as it is written; whether there is a class of the name is asked later
pub data Designator : Type 0 where
  class_itself : ℕ → Designator
  class_of_name : Name → Designator
  eql_to : Val → Designator

-- the symbol EQL; the keyword of that name is another one
abbrev pub is_eql_symbol : Val → Bool
is_eql_symbol (symbol name) = is_called (codes "EQL") name
is_eql_symbol v = false

-- a list of just two elements, of which the second is the object itself and no form
abbrev pub eql_designator : Vals → Option Designator
eql_designator (cons head (cons object nil)) = if is_eql_symbol head then Some (eql_to object) else None
eql_designator vs = None

-- a value that is none of the others has to be the name of a class, a symbol
abbrev pub if_symbol : Option Name → Option Designator
if_symbol None = None
if_symbol (Some name) = Some (class_of_name name)

-- of the lists NIL alone is a name, as a symbol; one with elements has to be that of EQL and an object
abbrev pub designator : Val → Option Designator
designator (class n) = Some (class_itself n)
designator (list (cons head rest)) = eql_designator (cons head rest)
designator v = if_symbol (symbol_in v)

-- one more before the others; nothing where it, or one of them, stands for no specializer
abbrev pub and_more : Option Designator → Option (List Designator) → Option (List Designator)
and_more None ds = None
and_more (Some d) None = None
and_more (Some d) (Some ds) = Some (d ∷ ds)

-- of each element of the list, in order; nothing where one of them stands for no specializer
abbrev pub designators : Vals → Option (List Designator)
designators nil = Some []
designators (cons v vs) = and_more (designator v) (designators vs)

-- ---- the specializers, where each class is defined

-- the specializer on a class that was found, or the condition why there is none
abbrev pub on_found : Result ℕ Condition → Result Specializer Condition
on_found (Ok n) = Ok (on_class n)
on_found (Err c) = Err c

-- a name alone can fail: that of no class is UNDEFINED-CLASS
abbrev pub specializer_for : classes.Table → Designator → Result Specializer Condition
specializer_for t (class_itself n) = Ok (on_class n)
specializer_for t (class_of_name name) = on_found (named_or_undefined name (named t name))
specializer_for t (eql_to v) = Ok (on_eql v)

-- one more before the others; of several conditions the leftmost is told
abbrev pub followed_by : Result Specializer Condition → Result (List Specializer) Condition → Result (List Specializer) Condition
followed_by (Err c) more = Err c
followed_by (Ok s) (Err c) = Err c
followed_by (Ok s) (Ok ss) = Ok (s ∷ ss)

-- in order; the first name of no class ends it with the condition
abbrev pub specializers_for : classes.Table → List Designator → Result (List Specializer) Condition
specializers_for t [] = Ok []
specializers_for t (d ∷ ds) = followed_by (specializer_for t d) (specializers_for t ds)

-- ---- the method

-- the elements of a list in order, as a method has its qualifiers
abbrev pub values_of : Vals → List Val
values_of nil = []
values_of (cons v vs) = v ∷ values_of vs

-- the condition that no method is so; it tells the function by its name
abbrev pub no_such_method : Val → Option Function → Condition
no_such_method v None = record { kind = NoSuchMethod; items = v ∷ [] }
no_such_method v (Some f) = record { kind = NoSuchMethod; items = called_value f.name ∷ [] }

-- where there is none a condition, or NIL if errorp is NIL
abbrev pub found_or_none : Table → ℕ → Bool → Option ℕ → Answer
found_or_none t g errorp (Some m) = Ok (method m)
found_or_none t g errorp None = if errorp then Err (no_such_method (generic g) (slice_get t.functions g)) else Ok (list nil)

-- a name of no class among the specializers is a condition, even where errorp is NIL
abbrev pub method_with : Table → ℕ → Vals → Bool → Result (List Specializer) Condition → Answer
method_with t g qualifiers errorp (Err c) = Err c
method_with t g qualifiers errorp (Ok ss) = found_or_none t g errorp (find_method t g (values_of qualifiers) ss)

-- where an element stands for no specializer, the whole list is of a wrong type
abbrev pub method_designated : classes.Table → Table → ℕ → Vals → Val → Bool → Option (List Designator) → Answer
method_designated cs t g qualifiers specializers errorp None = Err (wrong_type specializers)
method_designated cs t g qualifiers specializers errorp (Some ds) = method_with t g qualifiers errorp (specializers_for cs ds)

-- after the qualifiers: specializers that are no list are of a wrong type
abbrev pub specializers_given : classes.Table → Table → ℕ → Vals → Val → Bool → Answer
specializers_given cs t g qualifiers (list vs) errorp = method_designated cs t g qualifiers (list vs) errorp (designators vs)
specializers_given cs t g qualifiers v errorp = Err (wrong_type v)

-- after the function: qualifiers that are no list are of a wrong type
abbrev pub qualifiers_given : classes.Table → Table → ℕ → Val → Val → Bool → Answer
qualifiers_given cs t g (list qs) specializers errorp = specializers_given cs t g qs specializers errorp
qualifiers_given cs t g v specializers errorp = Err (wrong_type v)

-- the arguments are looked at from left to right; the first has to be a generic function
abbrev pub found_method : classes.Table → Table → Val → Val → Val → Bool → Answer
found_method cs t (generic g) qualifiers specializers errorp = qualifiers_given cs t g qualifiers specializers errorp
found_method cs t v qualifiers specializers errorp = Err (wrong_type v)

-- of a generic function, qualifiers, specializers and errorp, which is T where it is not given
abbrev pub method_answer : classes.Table → Table → List Val → Answer
method_answer cs t (g ∷ (qs ∷ (ss ∷ []))) = found_method cs t g qs ss true
method_answer cs t (g ∷ (qs ∷ (ss ∷ (e ∷ [])))) = found_method cs t g qs ss (is_true e)
method_answer cs t vs = wrong_number
