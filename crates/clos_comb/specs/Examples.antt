-- Methods that are combined: instances of the definitions.
use Rattle.std.specs.Prelude.{◌≡◌, ℕ, true, List, [], ◌∷◌, Option, Some, codes, refl}
use Rattle.lisp_data.specs.Name.{Name}
use Rattle.lisp_data.specs.Datum.{Dat, Dats, symbol, list, dotted, list_from}
use Rattle.lisp_data.specs.Datum as datum
use Rattle.lisp_data.specs.Print.{on_class}
use Rattle.lisp_data.specs.Value as value
use Rattle.lisp_data.specs.Value.{Val}
use Rattle.clos_forms.specs.Fault.{◌>>=◌}
use Rattle.clos_forms.specs.Form.{Form, form, nil, cons}
use Rattle.clos_forms.specs.Operator.{the_method, and_form, call, call_method}
use Rattle.clos_groups.specs.clos_combination.Combination.{combination_in}
use Rattle.clos_groups.specs.clos_method.Method.{system_method}
use Rattle.clos_groups.specs.clos_method.declared.method.Method.{Method}
use Rattle.clos_groups.specs.clos_method.declared.system.SystemFunction.TheVariants.{SlotUnbound}
use Rattle.clos_comb.specs.Effective.{combined_by}
use Rattle.clos_comb.specs.Groups.{plain}
use Rattle.clos_comb.specs.Outcome.{Combined, effective, group_empty, ambiguous_methods, bad_expansion}
use Rattle.clos_comb.specs.Table.{short, built_in_form, combination_of}

-- the keyword of these characters
abbrev key : List ℕ → Name
key text = record { text = text; keyword = true }

-- the symbol of these characters, which is no keyword
abbrev named : List ℕ → Dat
named text = symbol (plain text)

-- the list of these data
abbrev listed : List Dat → Dat
listed ds = list (list_from ds)

-- a list of the symbol of this name and these data
abbrev after_name : List ℕ → List Dat → Dat
after_name text ds = listed (named text ∷ ds)

-- a method of these qualifiers on the class of this number
abbrev on : List Val → ℕ → Method
on qualifiers class = record (system_method SlotUnbound) { qualifiers = qualifiers; specializers = on_class class ∷ [] }

-- the symbol of these characters as a qualifier
abbrev qualifier : List ℕ → Val
qualifier text = value.symbol (plain text)

-- a call of a method without next methods
abbrev called : ℕ → Form
called m = form (call_method (the_method m) []) nil

-- ---- the built-in AND

-- a method on each of three classes, all qualified by AND
abbrev and_methods : List Method
and_methods = on (qualifier (codes "AND") ∷ []) 3 ∷ on (qualifier (codes "AND") ∷ []) 2 ∷ on (qualifier (codes "AND") ∷ []) 1 ∷ []

-- AND calls them in turn, and no more after one that gives NIL
all_in_turn : combined_by (short (built_in_form (codes "AND"))) and_methods (0 ∷ 1 ∷ 2 ∷ []) datum.nil (0 ∷ 1 ∷ 2 ∷ [])
    ≡ effective (form and_form (cons (called 0) (cons (called 1) (cons (called 2) nil))))
all_in_turn = refl

-- with no methods the group PRIMARY is empty
none_of_them : combined_by (short (built_in_form (codes "AND"))) and_methods (0 ∷ 1 ∷ 2 ∷ []) datum.nil [] ≡ group_empty (plain (codes "PRIMARY"))
none_of_them = refl

-- an argument that is no order
no_order : combined_by (short (built_in_form (codes "AND"))) and_methods (0 ∷ 1 ∷ 2 ∷ []) (list_from (named (codes "LAST") ∷ [])) (0 ∷ []) ≡ bad_expansion
no_order = refl

-- ---- a long form:
-- (define-method-combination tags () ((extra (:extra)) (all (a . *) :order :most-specific-last :required t))
--   `(list ,@(mapcar (lambda (m) `(call-method ,m)) all)))

-- `(call-method ,m)
abbrev a_call : Dat
a_call = after_name (codes "QUASIQUOTE") (after_name (codes "CALL-METHOD") (after_name (codes "UNQUOTE") (named (codes "M") ∷ []) ∷ []) ∷ [])

-- (mapcar (lambda (m) `(call-method ,m)) all)
abbrev the_calls : Dat
the_calls = after_name (codes "MAPCAR") (after_name (codes "LAMBDA") (listed (named (codes "M") ∷ []) ∷ a_call ∷ []) ∷ named (codes "ALL") ∷ [])

-- ((extra (:extra)) (all (a . *) :order :most-specific-last :required t))
abbrev groups : Dat
groups =
    listed
    (after_name (codes "EXTRA") (listed (symbol (key (codes "EXTRA")) ∷ []) ∷ [])
    ∷ after_name (codes "ALL") (dotted (list_from (named (codes "A") ∷ [])) (named (codes "*")) ∷ symbol (key (codes "ORDER")) ∷ symbol (key (codes "MOST-SPECIFIC-LAST")) ∷ symbol (key (codes "REQUIRED")) ∷ named (codes "T") ∷ [])
    ∷ [])

-- what follows DEFINE-METHOD-COMBINATION: the name, no parameters, the groups, and the template
abbrev tags : Dats
tags = list_from (named (codes "TAGS") ∷ named (codes "NIL") ∷ groups ∷ after_name (codes "QUASIQUOTE") (after_name (codes "LIST") (after_name (codes "UNQUOTE-SPLICING") (the_calls ∷ []) ∷ []) ∷ []) ∷ [])

-- (defmethod t1 a x ((v b)) ..), (defmethod t1 a ((v a)) ..), (defmethod t1 :extra ((v integer)) ..), (defmethod t1 a y ((v b)) ..)
abbrev tagged : List Method
tagged =
    on (qualifier (codes "A") ∷ qualifier (codes "X") ∷ []) 23 ∷ on (qualifier (codes "A") ∷ []) 22 ∷ on (value.symbol (key (codes "EXTRA")) ∷ []) 2
    ∷ on (qualifier (codes "A") ∷ qualifier (codes "Y") ∷ []) 23 ∷ []

-- what these methods are combined into by it
abbrev by_tags : List ℕ → Option Combined
by_tags ms = combination_in tags >>= λ d. Some (combined_by (combination_of d) tagged (0 ∷ 1 ∷ 2 ∷ 3 ∷ []) datum.nil ms)

-- the least specific method first
tags_in_order : by_tags (0 ∷ 1 ∷ []) ≡ Some (effective (form (call (plain (codes "LIST"))) (cons (called 1) (cons (called 0) nil))))
tags_in_order = refl

-- the group ALL has to have a method
no_tags : by_tags (2 ∷ []) ≡ Some (group_empty (plain (codes "ALL")))
no_tags = refl

-- two methods of one group on one class
two_tags : by_tags (3 ∷ 0 ∷ 1 ∷ []) ≡ Some (ambiguous_methods 0 3)
two_tags = refl
