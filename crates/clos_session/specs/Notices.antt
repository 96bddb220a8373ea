-- Notices as they are printed.
use Rattle.std.specs.Prelude.{ℕ, List, true, false, codes, Option, Some, None, slice_get}
use Rattle.lisp_data.specs.Name.{Name}
use Rattle.lisp_data.specs.Print.{text_of}
use Rattle.lisp_data.specs.Value.{Val, list, nil, cons, class, generic, method}
use Rattle.clos_forms.specs.Quotation.{name_value}
use Rattle.clos_perform.specs.clos_definition_forms.clos_generic.Table.{Function}
use Rattle.clos_perform.specs.clos_watch.declared.notice.Notice.{Notice}
use Rattle.clos_perform.specs.clos_watch.declared.notice.Notice.TheVariants.{ClassRedefined, MethodAdded, MethodRemoved, GenericRedefined}
use Rattle.clos_perform.specs.clos_world.Class.{class_name}
use Rattle.clos_perform.specs.clos_world.FunctionName.{called_value}
use Rattle.clos_perform.specs.clos_world.World.{State, names_of}

-- the list of a word and a value
abbrev pub told_of : Name → Val → Val
told_of word v = list (cons (name_value word) (cons v nil))

abbrev pub word : List ℕ → Name
word text = record { text = text; keyword = false }

-- the name of a class
abbrev pub named_class : ℕ → Option Name → Val
named_class n None = class n
named_class n (Some name) = name_value name

abbrev pub class_told : State → ℕ → Val
class_told w n = named_class n (class_name w.classes n)

-- the name of a generic function
abbrev pub named_function : ℕ → Option Function → Val
named_function n None = generic n
named_function n (Some f) = called_value f.name

abbrev pub function_told : State → ℕ → Val
function_told w n = named_function n (slice_get w.generics.functions n)

-- what a notice is, and of what
abbrev pub notice_value : State → Notice → Val
notice_value w (ClassRedefined c) = told_of (word (codes "CLASS-REDEFINED")) (class_told w c.0)
notice_value w (MethodAdded g m) = told_of (word (codes "METHOD-ADDED")) (method m.0)
notice_value w (MethodRemoved g m) = told_of (word (codes "METHOD-REMOVED")) (method m.0)
notice_value w (GenericRedefined g) = told_of (word (codes "GENERIC-REDEFINED")) (function_told w g.0)

abbrev pub notice_text : State → Notice → List ℕ
notice_text w n = text_of true (names_of w) (notice_value w n)
