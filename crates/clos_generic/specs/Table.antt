-- Generic functions and their methods (HyperSpec 7.6).
use Rattle.std.specs.Prelude.{ℕ, zero, suc, ◌==◌, Bool, false, List, [], ◌∷◌, ◌++◌, Option, Some, None, if◌then◌else◌, length, position, slice_get, unwrap_or}
use Rattle.std.specs.List.{find}
use Rattle.lisp_data.specs.Name.{same_name}
use Rattle.lisp_data.specs.Print.{Specializer}
use Rattle.lisp_data.specs.Value.{Val}
use Rattle.clos_forms.specs.declared.operator.FunctionName.{FunctionName}
use Rattle.clos_forms.specs.declared.operator.FunctionName.TheVariants.{Symbol, Setf}
use Rattle.clos_syntax.specs.declared.generic.CombinationUse.{CombinationUse}
use Rattle.clos_method.specs.Method.{is_alike}
use Rattle.clos_method.specs.declared.method.Method.{Method}
use Rattle.clos_method.specs.declared.shape.Shape.{Shape}
use Rattle.clos_generic.specs.declared.options.Options.{Options}

-- a generic function (7.6.1)
pub record Function : Type 0 where
  pub name : FunctionName
  pub shape : Shape
  pub precedence : List ℕ  -- the argument precedence order: places of required parameters
  pub combination : CombinationUse
  pub methods : List ℕ  -- their numbers, in order of addition

pub record Table : Type 0 where
  pub functions : List Function  -- the number of one is its place
  pub methods : List Method  -- all that were ever made; the number of one is its place
  pub most_functions : ℕ  -- so many may be made besides the system's
  pub most_methods : ℕ

-- ---- functions by their names

abbrev pub same_function : FunctionName → FunctionName → Bool
same_function (Symbol a) (Symbol b) = same_name a b
same_function (Symbol a) (Setf b) = false
same_function (Setf a) (Symbol b) = false
same_function (Setf a) (Setf b) = same_name a b

abbrev pub named_in : List Function → FunctionName → Option ℕ
named_in fs name = position (λ f. same_function f.name name) fs

-- the number of the function of this name
abbrev pub named : Table → FunctionName → Option ℕ
named t name = named_in t.functions name

-- the same, or the next number where there is none
abbrev pub number : Table → FunctionName → ℕ
number t name = unwrap_or (named t name) (length t.functions)

-- ---- methods

abbrev pub methods_in : Option Function → List ℕ
methods_in None = []
methods_in (Some f) = f.methods

-- the methods of a function
abbrev pub methods_of : Table → ℕ → List ℕ
methods_of t g = methods_in (slice_get t.functions g)

abbrev pub is_alike_in : List Val → List Specializer → Option Method → Bool
is_alike_in qualifiers specializers None = false
is_alike_in qualifiers specializers (Some m) = is_alike m qualifiers specializers

-- whether the method of this number has these qualifiers and these specializers
abbrev pub is_alike_at : List Method → List Val → List Specializer → ℕ → Bool
is_alike_at methods qualifiers specializers m = is_alike_in qualifiers specializers (slice_get methods m)

-- the method of a function that has them (7.7 find-method)
abbrev pub find_method : Table → ℕ → List Val → List Specializer → Option ℕ
find_method t g qualifiers specializers = find (is_alike_at t.methods qualifiers specializers) (methods_of t g)

abbrev pub methods_named : Table → Option ℕ → List ℕ
methods_named t None = []
methods_named t (Some g) = methods_of t g

-- ---- definitions (7.7 defgeneric)

abbrev pub made : FunctionName → Options → Function
made name o = record { name = name; shape = o.shape; precedence = o.precedence; combination = o.combination; methods = [] }

abbrev pub redefined : Options → Function → Function
redefined o f = record f { shape = o.shape; precedence = o.precedence; combination = o.combination }

-- the functions after the one of this number was changed so
abbrev pub with_changed : {X : Type 0} → (X → X) → ℕ → List X → List X
with_changed change n [] = []
with_changed change zero (f ∷ fs) = change f ∷ fs
with_changed change (suc n) (f ∷ fs) = f ∷ with_changed change n fs

abbrev pub defined_at : Option ℕ → FunctionName → Options → List Function → List Function
defined_at None name o fs = fs ++ made name o ∷ []
defined_at (Some g) name o fs = with_changed (redefined o) g fs

-- A new function comes last, without methods. One that is there takes on these options and keeps its methods.
abbrev pub with_definition : FunctionName → Options → Table → Table
with_definition name o t = record t { functions = defined_at (named t name) name o t.functions }

-- ---- methods that come and go (7.6.3, 7.7 add-method, remove-method)

-- without the first one that is so
abbrev pub without : (ℕ → Bool) → List ℕ → List ℕ
without p [] = []
without p (m ∷ ms) = if p m then ms else m ∷ without p ms

abbrev pub with_methods : (List ℕ → List ℕ) → Function → Function
with_methods change f = record f { methods = change f.methods }

-- the method of these qualifiers and specializers goes, and this one comes last
abbrev pub added : List Method → Method → List ℕ → List ℕ
added methods m ms = without (is_alike_at methods m.qualifiers m.specializers) ms ++ length methods ∷ []

-- A new method has the next number. It takes the place of one of the function's with the same qualifiers and specializers.
abbrev pub with_method : ℕ → Method → Table → Table
with_method g m t = record t {
  methods = t.methods ++ m ∷ [];
  functions = with_changed (with_methods (added t.methods m)) g t.functions;
}

-- A method is taken out of its function. It stays among all methods.
abbrev pub without_method : ℕ → ℕ → Table → Table
without_method g m t = record t { functions = with_changed (with_methods (without (λ n. n == m))) g t.functions }
