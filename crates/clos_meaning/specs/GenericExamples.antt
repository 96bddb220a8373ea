-- A worked example: around, before, primary and after methods of one call (HyperSpec 7.6.6.2). They are those of
--   (defclass a () ()) (defclass b (a) ())
--   (defmethod g :around ((x b)) (princ "1") (prog1 (call-next-method) (princ "9"))) and so on,
-- and the call is (princ (g (make-instance 'b))).
use Rattle.std.specs.Prelude.{◌≡◌, ℕ, false, true, List, [], ◌∷◌, ◌++◌, None, codes, map, refl, Option, Some, option_map}
use Rattle.lisp_data.specs.Name.{Name}
use Rattle.lisp_data.specs.Print.{on_class}
use Rattle.lisp_data.specs.Value.{Val, symbol, string}
use Rattle.lisp_data.specs.Value as value
use Rattle.clos_forms.specs.Form.{Form, Forms, form, nil, cons}
use Rattle.clos_forms.specs.Operator as of
use Rattle.clos_forms.specs.declared.operator.FunctionName.TheVariants.{Symbol}
use Rattle.clos_world.specs.Initial.{initial}
use Rattle.clos_world.specs.Limits.{standard}
use Rattle.clos_world.specs.World.{State}
use Rattle.clos_world.specs.clos_class.Table as classes
use Rattle.clos_world.specs.clos_class.clos_defclass.declared.class.ClassDefinition.{ClassDefinition}
use Rattle.clos_world.specs.clos_generic.Initial as generics
use Rattle.clos_world.specs.clos_generic.Table.{Function}
use Rattle.clos_world.specs.clos_store.Store.{allocated, with_instance}
use Rattle.clos_world.specs.declared.condition.ConditionKind.TheVariants.{StepLimit}
use Rattle.clos_world.specs.clos_method.Method.{system_method}
use Rattle.clos_world.specs.clos_method.System.{system_functions}
use Rattle.clos_world.specs.clos_method.declared.method.Method.{Method}
use Rattle.clos_world.specs.clos_method.declared.method.MethodBody.TheVariants.{Forms as Body}
use Rattle.clos_world.specs.clos_method.declared.origin.Origin.TheVariants.{Defmethod}
use Rattle.clos_world.specs.clos_method.declared.shape.Shape.{Shape}
use Rattle.clos_meaning.specs.Meaning.{evaluation}
use Rattle.clos_meaning.specs.Host.{answered_by}
use Rattle.clos_meaning.specs.Outcome.{End, Given, Out, Signalled}

abbrev name : List ℕ → Name
name text = record { text = text; keyword = false }

abbrev key : List ℕ → Name
key text = record { text = text; keyword = true }

abbrev alone : Form → Forms
alone f = cons f nil

abbrev call : List ℕ → Forms → Form
call text parts = form (of.call (name text)) parts

abbrev quoted : List ℕ → Form
quoted text = form (of.constant (symbol (name text))) nil

-- (princ "text")
abbrev says : List ℕ → Form
says text = call (codes "PRINC") (alone (form (of.constant (string text)) nil))

abbrev next : Form
next = form of.call_next_method nil

-- ---- the classes, and the methods

-- the first class that a program defines
abbrev a : ℕ
a = 22

abbrev b : ℕ
b = 23

abbrev class_named : List ℕ → List Name → ClassDefinition
class_named text above = record { name = name text; superclasses = above; slots = []; defaults = [] }

-- of one required parameter
abbrev one : Shape
one = record { required = 1; optional = 0; rest = false; keys = None }

-- a method on a class, of these qualifiers, with these forms
abbrev on : ℕ → List Val → Forms → Method
on class qualifiers forms = record {
  generic = record { 0 = 9 };
  qualifiers = qualifiers;
  specializers = on_class class ∷ [];
  shape = one;
  origin = Defmethod;
  body = Body (record { required = name (codes "X") ∷ []; optional = []; rest = None; keys = None }) forms;
}

abbrev around : List Val
around = symbol (key (codes "AROUND")) ∷ []

abbrev before : List Val
before = symbol (key (codes "BEFORE")) ∷ []

abbrev after : List Val
after = symbol (key (codes "AFTER")) ∷ []

abbrev wraps : List ℕ → List ℕ → Forms
wraps first last = cons (says first) (alone (form of.prog1 (cons next (alone (says last)))))

abbrev methods : List Method
methods =
    on b around (wraps (codes "1") (codes "9"))
    ∷ on a around (wraps (codes "2") (codes "8"))
    ∷ on b before (alone (says (codes "3")))
    ∷ on a before (alone (says (codes "4")))
    ∷ on b [] (cons (says (codes "5")) (alone (call (codes "LIST") (cons (quoted (codes "B")) (alone next)))))
    ∷ on a [] (cons (says (codes "a")) (alone (quoted (codes "A"))))
    ∷ on a after (alone (says (codes "6")))
    ∷ on b after (alone (says (codes "7")))
    ∷ []

abbrev g : Function
g = record {
  name = Symbol (name (codes "G"));
  shape = one;
  precedence = 0 ∷ [];
  combination = generics.standard;
  methods = 9 ∷ 10 ∷ 11 ∷ 12 ∷ 13 ∷ 14 ∷ 15 ∷ 16 ∷ [];
}

-- the state in which they are defined
abbrev defined : State
defined = record (initial standard []) {
  classes = classes.with_definition (classes.with_definition (classes.initial 4096) (class_named (codes "A") []) 0) (class_named (codes "B") (name (codes "A") ∷ [])) 0;
  generics = record (initial standard []).generics {
    functions = map generics.system_generic system_functions ++ g ∷ [];
    methods = map system_method system_functions ++ methods;
  };
}

-- ---- the call

-- what it ends with; it calls no function that the host stored
abbrev ends : Out → Option End
ends o = answered_by (λ name. None) o []

-- what stands written then
abbrev written_in : End → List ℕ
written_in (Given v w s) = w.written
written_in (Signalled c w s) = w.written

called_in_order : option_map written_in
    (ends (evaluation 20 (call (codes "PRINC")
    (alone (call (codes "G") (alone (call (codes "MAKE-INSTANCE") (alone (quoted (codes "B")))))))) defined 200))
    ≡ Some (codes "12345a6789(B A)")
called_in_order = refl

-- ---- (make-instance 'b): a step each for the form, the name, the instance, and the effective methods of initialize-instance and
-- shared-initialize

abbrev made : Form
made = call (codes "MAKE-INSTANCE") (alone (quoted (codes "B")))

instance_is_made : ends (evaluation 20 made defined 5) ≡ Some
    (Given (value.instance 1) (record defined { store = with_instance (allocated b (record { locals = []; shared = [] })) defined.store })
    0)
instance_is_made = refl

is_cut_in_between : ends (evaluation 20 made defined 4)
    ≡ Some (Signalled (record { kind = StepLimit; items = [] })
    (record defined { store = with_instance (allocated b (record { locals = []; shared = [] })) defined.store }) 0)
is_cut_in_between = refl
