-- Functions of classes (HyperSpec 4.3.7, the entries class-of, class-name, find-class and typep; AMOP 6 class-precedence-list).
use Rattle.std.specs.Prelude.{◌≡◌, ℕ, ◌==◌, List, [], ◌∷◌, Bool, true, false, map, Option, Some, None, Result, Ok, Err}
use Rattle.std.specs.List.{list_any}
use Rattle.lisp_data.specs.Name.{Name}
use Rattle.lisp_data.specs.Value.{Val, symbol, list, class, nil}
use Rattle.lisp_data.specs.ValueView.{value_of}
use Rattle.lisp_data.specs.declared.value.Value.{Value}
use Rattle.lisp_prims.specs.Fault as prims
use Rattle.lisp_prims.specs.Primitive.{answer, truth}
use Rattle.lisp_prims.specs.lisp_functions.declared.lists.ListFunction.TheVariants as lists
use Rattle.lisp_prims.specs.lisp_functions.declared.primitive.Primitive.TheVariants.{Listed}
use Rattle.clos_forms.specs.Quotation.{name_value}
use Rattle.clos_world.specs.clos_class.Table.{Table}
use Rattle.clos_world.specs.Class.{named, precedence, precedence_or_none, class_name}
use Rattle.clos_world.specs.Condition.{nil_name}
use Rattle.clos_world.specs.declared.condition.Condition.{Condition}
use Rattle.clos_world.specs.declared.condition.ConditionKind.TheVariants.{ProgramError, TypeError, UndefinedClass, IncompleteClass}
use Rattle.clos_world.specs.declared.condition.Stop.{Stop}
use Rattle.clos_world.specs.declared.condition.Stop.TheVariants.{Refused, Storage}
use Rattle.clos_meaning.specs.Fault.{condition_of}
use Rattle.clos_meaning.specs.Outcome.{Gave, Stopped, Run, is_true}
use Rattle.clos_forms.specs.clos_names.declared.callee.ClassFunction.{ClassFunction}
use Rattle.clos_forms.specs.clos_names.declared.callee.ClassFunction.TheVariants.{ClassOf, ClassName, ClassPrecedenceList, FindClass, Typep}

-- a value, or the condition in its place
abbrev pub Answer : Type 0
Answer = Result Val Condition

-- too few arguments, or too many (3.5.1.2, 3.5.1.3)
abbrev pub wrong_number : Answer
wrong_number = Err (record { kind = ProgramError; items = [] })

-- an argument of a type that the function does not take; the condition tells the argument
abbrev pub wrong_type : Val → Condition
wrong_type v = record { kind = TypeError; items = v ∷ [] }

-- no class has this name, which the condition tells
abbrev pub undefined_class : Name → Condition
undefined_class name = record { kind = UndefinedClass; items = name_value name ∷ [] }

-- the condition that the class of this name is not complete: a superclass of it, or of one of them and so on, is not defined
abbrev pub incomplete_class : Option Name → Condition
incomplete_class None = record { kind = IncompleteClass; items = [] }
incomplete_class (Some name) = record { kind = IncompleteClass; items = name_value name ∷ [] }

-- the symbol that a value is; NIL, the empty list, is one
abbrev pub symbol_in : Val → Option Name
symbol_in (symbol name) = Some name
symbol_in (list nil) = Some nil_name
symbol_in v = None

-- ---- class-of: the class of a value (4.3.7)

-- of just one argument; every object has a class, so there is no other condition
abbrev pub class_of_value : (Val → ℕ) → List Val → Answer
class_of_value class_of [] = wrong_number
class_of_value class_of (v ∷ []) = Ok (class (class_of v))
class_of_value class_of (v ∷ (u ∷ vs)) = wrong_number

-- ---- class-name: the name of a class

-- the name under which the class was defined; where there is none the value is of a wrong type
abbrev pub told_name : Val → Option Name → Answer
told_name v None = Err (wrong_type v)
told_name v (Some name) = Ok (name_value name)

-- any value that is no class is of a wrong type, a symbol that names one too
abbrev pub name_of_class : Table → Val → Answer
name_of_class classes (class n) = told_name (class n) (class_name classes n)
name_of_class classes v = Err (wrong_type v)

-- of just one argument
abbrev pub class_name_of : Table → List Val → Answer
class_name_of classes [] = wrong_number
class_name_of classes (v ∷ []) = name_of_class classes v
class_name_of classes (v ∷ (u ∷ vs)) = wrong_number

-- ---- class-precedence-list: the list of a complete class, from the class itself on (AMOP 6; HyperSpec 4.3.5)

-- the answer of a function of values, its condition as one with which an evaluation stops
abbrev pub in_words_of_conditions : Result Val prims.Condition → Answer
in_words_of_conditions (Ok v) = Ok v
in_words_of_conditions (Err c) = Err (condition_of c)

-- the list of these classes, if it is not too long
abbrev pub classes_listed : List ℕ → Answer
classes_listed ns = in_words_of_conditions (answer (Listed lists.List) (map class ns))

-- a class that is not complete has no such list; the condition tells its name
abbrev pub listed_if_complete : Option Name → Option (List ℕ) → Answer
listed_if_complete name None = Err (incomplete_class name)
listed_if_complete name (Some ns) = classes_listed ns

-- of the class itself; any other value is of a wrong type, a symbol that names a class too
abbrev pub precedence_of_class : Table → Val → Answer
precedence_of_class classes (class n) = listed_if_complete (class_name classes n) (precedence classes n)
precedence_of_class classes v = Err (wrong_type v)

-- of just one argument
abbrev pub precedence_list_of : Table → List Val → Answer
precedence_list_of classes [] = wrong_number
precedence_list_of classes (v ∷ []) = precedence_of_class classes v
precedence_list_of classes (v ∷ (u ∷ vs)) = wrong_number

-- ---- find-class: the class of a name; where there is none a condition, or NIL if errorp is NIL

-- no class has this name: a condition where errorp is true, else NIL
abbrev pub missing : Name → Bool → Answer
missing name true = Err (undefined_class name)
missing name false = Ok (list nil)

-- errorp matters only where no class has the name
abbrev pub found_or_missing : Name → Bool → Option ℕ → Answer
found_or_missing name errorp None = missing name errorp
found_or_missing name errorp (Some n) = Ok (class n)

-- a class is named by a symbol; another value is of a wrong type, whatever errorp is
abbrev pub class_by_symbol : Table → Bool → Val → Option Name → Answer
class_by_symbol classes errorp v None = Err (wrong_type v)
class_by_symbol classes errorp v (Some name) = found_or_missing name errorp (named classes name)

-- of a name and errorp, true where it is not given; an environment is one argument too many
abbrev pub found_class : Table → List Val → Answer
found_class classes [] = wrong_number
found_class classes (v ∷ []) = class_by_symbol classes true v (symbol_in v)
found_class classes (v ∷ (e ∷ [])) = class_by_symbol classes (is_true e) v (symbol_in v)
found_class classes (v ∷ (e ∷ (u ∷ vs))) = wrong_number

-- ---- typep: whether a value is of a class, or of a subclass of it (4.3.7)

-- the class of a name, or the condition that there is none
abbrev pub named_or_undefined : Name → Option ℕ → Result ℕ Condition
named_or_undefined name None = Err (undefined_class name)
named_or_undefined name (Some n) = Ok n

-- a value that is no class has to be the name of one; other type specifiers are of a wrong type
abbrev pub named_by : Table → Val → Option Name → Result ℕ Condition
named_by classes v None = Err (wrong_type v)
named_by classes v (Some name) = named_or_undefined name (named classes name)

-- the class that a value is or names
abbrev pub class_designated : Table → Val → Result ℕ Condition
class_designated classes (class n) = Ok n
class_designated classes v = named_by classes v (symbol_in v)

-- whether the second class is the first, which is complete, or one of its superclasses
abbrev pub is_subclass : Table → ℕ → ℕ → Bool
is_subclass classes c n = list_any (λ m. m == n) (precedence_or_none classes c)

-- true or NIL where a class is designated, else the condition why none is
abbrev pub of_class : Table → ℕ → Result ℕ Condition → Answer
of_class classes c (Err e) = Err e
of_class classes c (Ok n) = Ok (truth (is_subclass classes c n))

-- of an object and a class; an environment is one argument too many
abbrev pub of_type : Table → (Val → ℕ) → List Val → Answer
of_type classes class_of [] = wrong_number
of_type classes class_of (v ∷ []) = wrong_number
of_type classes class_of (v ∷ (t ∷ [])) = of_class classes (class_of v) (class_designated classes t)
of_type classes class_of (v ∷ (t ∷ (u ∷ vs))) = wrong_number

-- ---- any of them, in a state with these classes, where values are of these classes

-- by the function that is called, with the arguments of its call
abbrev pub class_answer : ClassFunction → Table → (Val → ℕ) → List Val → Answer
class_answer ClassOf classes class_of vs = class_of_value class_of vs
class_answer ClassName classes class_of vs = class_name_of classes vs
class_answer ClassPrecedenceList classes class_of vs = precedence_list_of classes vs
class_answer FindClass classes class_of vs = found_class classes vs
class_answer Typep classes class_of vs = of_type classes class_of vs

-- the answer as an evaluation, which changes nothing and takes no step
abbrev pub comes_to : Answer → Run
comes_to (Ok v) w s = Gave v w s
comes_to (Err c) w s = Stopped c w s

-- the answer, unless memory ran out
abbrev pub Tells : Answer → Result Value Stop → Type 0
Tells x (Ok v) = x ≡ Ok (value_of v)
Tells x (Err (Refused c)) = x ≡ Err c
Tells x (Err Storage) = Unit {0}
