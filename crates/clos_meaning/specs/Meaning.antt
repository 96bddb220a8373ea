-- What forms mean (HyperSpec 3.1.2), by their operators.
use Rattle.std.specs.Prelude.{ℕ, zero, suc, pos, Bool, true, false, List, [], ◌∷◌, ◌++◌, Option, Some, None, is_some, ◌||◌, length}
use Rattle.lisp_data.specs.Name.{Name}
use Rattle.lisp_data.specs.Print.{Called, by_symbol, by_setf}
use Rattle.lisp_data.specs.Value.{Val, integer, generic, list, nil}
use Rattle.lisp_prims.specs.Primitive.{truth, answer}
use Rattle.lisp_prims.specs.lisp_functions.declared.primitive.Primitive.{Primitive}
use Rattle.lisp_prims.specs.lisp_functions.declared.primitive.Primitive.TheVariants.{Number}
use Rattle.lisp_prims.specs.lisp_functions.declared.arithmetic.Arithmetic.TheVariants.{Sum, Difference}
use Rattle.clos_forms.specs.Form.{Form, Forms, operator_in, parts_in}
use Rattle.clos_forms.specs.Form as form
use Rattle.clos_forms.specs.clos_names.Names.{is_one_of, functions}
use Rattle.clos_forms.specs.Operator.{Operator, Place, variable_place, slot_value_place, call_place}
use Rattle.clos_forms.specs.Operator as of
use Rattle.clos_forms.specs.Quotation.{name_value}
use Rattle.clos_forms.specs.declared.operator.FunctionName.TheVariants.{Symbol, Setf}
use Rattle.clos_world.specs.clos_generic.Table.{named}
use Rattle.clos_world.specs.FunctionName.{setter_value}
use Rattle.clos_world.specs.Functions.{function_in}
use Rattle.clos_world.specs.Values.{only_value, last_first}
use Rattle.clos_world.specs.World.{State, unbound}
use Rattle.clos_world.specs.declared.condition.ConditionKind.TheVariants.{ProgramError, UndefinedFunction, Unsupported, DepthLimit}
use Rattle.clos_meaning.specs.Assignment.{changed_only}
use Rattle.clos_meaning.specs.Calls.{method_called}
use Rattle.clos_meaning.specs.Contexts.{Context, known}
use Rattle.clos_meaning.specs.NextMethods.{has_next, next_called, next_with}
use Rattle.clos_meaning.specs.Control.{and_then, branch_by, clauses, first_then, keeping, or_then, sequence, where_false, where_true}
use Rattle.clos_meaning.specs.Fault.{answered}
use Rattle.clos_meaning.specs.Functions.{Access, call_access, called, place_read, place_set, slot_access}
use Rattle.clos_meaning.specs.Outcome.{Out, Gave, Stopped, Noted, Looked, Asked, Run, Eval, then_do, step_then, gave, stopped}
use Rattle.clos_meaning.specs.SlotNames.{name_read, name_stored, place_denoted, with_slots}
use Rattle.clos_meaning.specs.Variables.{in_order, aside, dotimes}

-- the values of forms, from left to right
abbrev pub collect : Eval → Context → Forms → List Val → (List Val → Run) → Run
collect ev env form.nil vs go w s = go vs w s
collect ev env (form.cons f fs) vs go w s = then_do (ev env f w s) (λ v. collect ev env fs (vs ++ v ∷ []) go)

-- a single form, where several could stand
abbrev pub alone : Form → Forms
alone f = form.cons f form.nil

-- ---- a place that is changed by an amount: it is read, and then set

-- these values and the amount, which is 1 where no form gives it
abbrev pub with_amount : Eval → Context → Forms → List Val → (List Val → Run) → Run
with_amount ev env form.nil vs go w s = go (vs ++ integer (pos 1) ∷ []) w s
with_amount ev env (form.cons f fs) vs go w s = collect ev env (form.cons f fs) vs go w s

-- the value is the new one, whatever the function (setf name) gives
abbrev pub set_place : Eval → Context → Access → List Val → Val → Run
set_place ev env t vs v w s = then_do (place_set ev env t (vs ++ v ∷ []) w s) (λ u. gave v)

-- the place had the old value: it gets what the function makes of that and the amount
abbrev pub changed_from : Eval → Context → Primitive → Access → List Val → Val → Val → Run
changed_from ev env p t vs amount old w s = then_do (answered (answer p (old ∷ amount ∷ [])) w s) (λ v. set_place ev env t vs v)

-- with the amount before the place's arguments
abbrev pub changed_place : Eval → Context → Primitive → Access → List Val → Run
changed_place ev env p t [] w s = stopped ProgramError [] w s
changed_place ev env p t (amount ∷ vs) w s = then_do (place_read ev env t vs w s) (λ old. changed_from ev env p t vs amount old)

-- a name that stands for a slot is changed as its place is, another as a variable
abbrev pub name_changed : Eval → Context → Primitive → Name → Option (List Val) → List Val → Run
name_changed ev env p name None vs w s = changed_only p name (only_value vs) w s
name_changed ev env p name (Some place) vs w s = changed_place ev env p slot_access (last_first (place ++ vs)) w s

-- the name gets what the function makes of its value and this amount
abbrev pub name_changed_by : Eval → Context → Primitive → Name → List Val → Run
name_changed_by ev env p name vs w s = name_changed ev env p name (place_denoted w name) vs w s

-- a place with these arguments is set to the value of a form
abbrev pub place_set_to : Eval → Context → Access → Form → List Val → Run
place_set_to ev env a f vs w s = collect ev env (alone f) vs (λ us u k. place_set ev env a us u k) w s

-- it is changed by the value of a form, or by 1
abbrev pub place_changed_by : Eval → Context → Primitive → Access → Forms → List Val → Run
place_changed_by ev env p a fs vs w s = with_amount ev env fs vs (λ us u k. changed_place ev env p a (last_first us) u k) w s

-- ---- setq, setf, incf and decf: assignments one after another, of which the last gives the value

-- each variable is set before the next form is evaluated; this value is given where no more are left
abbrev pub setq : Eval → Context → List Name → Forms → Val → Run
setq ev env [] fs v w s = Gave v w s
setq ev env (n ∷ ns) form.nil v w s = stopped ProgramError [] w s
setq ev env (n ∷ ns) (form.cons f fs) v w s = then_do (collect ev env (alone f) [] (name_stored ev env n) w s) (λ u. setq ev env ns fs u)

-- the place that a form is, where setf, incf or decf has it; other forms are none
abbrev pub place_in : Operator → Option Place
place_in (of.place p) = Some p
place_in o = None

-- a place is set to the value of a form
abbrev pub assigned : Eval → Context → Option Place → Forms → Form → Run
assigned ev env None ps f w s = stopped ProgramError [] w s
assigned ev env (Some (variable_place n)) ps f w s = collect ev env (alone f) [] (name_stored ev env n) w s
assigned ev env (Some slot_value_place) ps f w s = collect ev env ps [] (place_set_to ev env slot_access f) w s
assigned ev env (Some (call_place n)) ps f w s = collect ev env ps [] (place_set_to ev env (call_access n) f) w s

-- the same of places, each form of a new value after the subforms of its place
abbrev pub setf : Eval → Context → Forms → Val → Run
setf ev env form.nil v w s = Gave v w s
setf ev env (form.cons p form.nil) v w s = stopped ProgramError [] w s
setf ev env (form.cons p (form.cons f fs)) v w s = then_do (assigned ev env (place_in (operator_in p)) (parts_in p) f w s) (λ u. setf ev env fs u)

-- a place with its parts is changed by the amount that these forms give
abbrev pub changed_by : Eval → Context → Primitive → Option Place → Forms → Forms → Run
changed_by ev env p None ps fs w s = stopped ProgramError [] w s
changed_by ev env p (Some (variable_place n)) ps fs w s = with_amount ev env fs [] (name_changed_by ev env p n) w s
changed_by ev env p (Some slot_value_place) ps fs w s = collect ev env ps [] (place_changed_by ev env p slot_access fs) w s
changed_by ev env p (Some (call_place n)) ps fs w s = collect ev env ps [] (place_changed_by ev env p (call_access n) fs) w s

-- incf with the sum, decf with the difference; the first form is the place, and the amount may follow
abbrev pub changing : Eval → Context → Primitive → Forms → Run
changing ev env p form.nil w s = stopped ProgramError [] w s
changing ev env p (form.cons place fs) w s = changed_by ev env p (place_in (operator_in place)) (parts_in place) fs w s

-- ---- function: a generic function; other functions are no objects here

-- a function that is no generic function, or none at all
abbrev pub other_function : Bool → Val → Run
other_function true name w s = stopped Unsupported [] w s
other_function false name w s = stopped UndefinedFunction (name ∷ []) w s

-- a function of the language, or one that a defun defined
abbrev pub is_plain_function : State → Name → Bool
is_plain_function w name = is_one_of functions name || is_some (function_in w.functions name)

-- of #'name: the generic function of that name, or one of the conditions above
abbrev pub symbol_function : Name → Option ℕ → Run
symbol_function name None w s = other_function (is_plain_function w name) (name_value name) w s
symbol_function name (Some g) w s = Gave (generic g) w s

-- of #'(setf name): the same; a defun alone makes a function of such a name that is not generic
abbrev pub setter_function : Name → Option ℕ → Run
setter_function name None w s = other_function (is_some (function_in w.setters name)) (setter_value name) w s
setter_function name (Some g) w s = Gave (generic g) w s

-- by what the form names: a symbol, or (setf symbol)
abbrev pub function_value : Called → Run
function_value (by_symbol name) w s = symbol_function name (named w.generics (Symbol name)) w s
function_value (by_setf name) w s = setter_function name (named w.generics (Setf name)) w s

-- ---- call-next-method: without forms, with the arguments with which the method was called

-- where there are forms, their values are the arguments of the next method instead
abbrev pub next_method : Eval → Context → Forms → Run
next_method ev env form.nil w s = next_called ev env env.running env.arguments w s
next_method ev env (form.cons f fs) w s = collect ev env (form.cons f fs) [] (next_with ev env) w s

-- ---- forms

-- what an operator does with its parts
abbrev pub operated : Eval → Context → Operator → Forms → Run
operated ev env (of.constant v) ps w s = Gave v w s
operated ev env of.no_value ps w s = stopped Unsupported [] w s
operated ev env (of.variable name) ps w s = name_read ev env name (place_denoted w name) w s
operated ev env (of.function c) ps w s = function_value c w s
operated ev env of.if_form ps w s = first_then ev env ps (branch_by ev env) (list nil) w s
operated ev env of.cond ps w s = clauses ev env ps w s
operated ev env of.clause ps w s = stopped Unsupported [] w s
operated ev env of.when ps w s = first_then ev env ps (where_true ev env) (list nil) w s
operated ev env of.unless ps w s = first_then ev env ps (where_false ev env) (list nil) w s
operated ev env of.and_form ps w s = first_then ev env ps (and_then ev env) (truth true) w s
operated ev env of.or_form ps w s = first_then ev env ps (or_then ev env) (list nil) w s
operated ev env of.progn ps w s = first_then ev env ps (sequence ev env) (list nil) w s
operated ev env of.prog1 ps w s = first_then ev env ps (keeping ev env) (list nil) w s
operated ev env (of.let_form bs) ps w s = aside ev env (length w.locals) bs ps [] w s
operated ev env (of.let_in_order bs) ps w s = in_order ev env (length w.locals) bs ps w s
operated ev env (of.setq ns) ps w s = setq ev env ns ps (list nil) w s
operated ev env of.setf ps w s = setf ev env ps (list nil) w s
operated ev env of.incf ps w s = changing ev env (Number Sum) ps w s
operated ev env of.decf ps w s = changing ev env (Number Difference) ps w s
operated ev env (of.place p) ps w s = stopped Unsupported [] w s
operated ev env (of.dotimes name has_result) ps w s = dotimes ev env (length w.locals) name has_result ps w s
operated ev env (of.with_slots bs) ps w s = with_slots ev env bs ps w s
operated ev env of.call_next_method ps w s = next_method ev env ps w s
operated ev env of.next_method_p ps w s = Gave (truth (has_next env.running)) w s
operated ev env (of.call name) ps w s = collect ev env ps [] (called ev env name) w s
operated ev env (of.call_method m ns) ps w s = method_called ev env m ns ps w s

-- what a form gives once its own step is taken: what its operator does with its parts
abbrev pub body : Eval → Context → Form → Run
body ev env f w s = operated ev env (operator_in f) (parts_in f) w s

-- With this much room for depth: each form takes a step, and what it evaluates has one less room.
abbrev pub meaning : ℕ → Eval
meaning zero env f w s = step_then (stopped DepthLimit []) w s
meaning (suc n) env f w s = step_then (body (meaning n) env f) w s

-- no variables are left
abbrev pub closed : Out → Out
closed (Gave v w s) = Gave v (unbound w) s
closed (Stopped c w s) = Stopped c (unbound w) s
closed (Noted n o) = Noted n (closed o)
closed (Looked name more) = Looked name (λ n. closed (more n))
closed (Asked name xs more) = Asked name xs (λ x. closed (more x))

-- A form that is evaluated by itself begins with no variables and leaves none.
abbrev pub evaluation : ℕ → Form → Run
evaluation room f w s = closed (meaning room (known []) f (unbound w) s)
