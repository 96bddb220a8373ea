-- Calls of functions (HyperSpec 3.1.2.1.2.3) and of methods (7.6.6).
use Rattle.std.specs.Prelude.{ℕ, Bool, ◌||◌, List, [], ◌∷◌, Option, Some, None, is_none, if◌then◌else◌, slice_get}
use Rattle.lisp_data.specs.Name.{Name}
use Rattle.lisp_data.specs.Value.{Val}
use Rattle.clos_forms.specs.Form.{Forms, nil, cons}
use Rattle.clos_forms.specs.Operator.{Callable, the_method, made}
use Rattle.clos_forms.specs.Quotation.{name_value}
use Rattle.clos_forms.specs.declared.operator.FunctionName.TheVariants.{Setf}
use Rattle.clos_world.specs.clos_generic.Table.{named}
use Rattle.clos_world.specs.clos_method.declared.method.Method.{Method}
use Rattle.clos_world.specs.clos_method.declared.method.MethodBody.{MethodBody}
use Rattle.clos_world.specs.clos_method.declared.method.MethodBody.TheVariants.{Forms as Body, Reader, Writer, System}
use Rattle.clos_world.specs.clos_lambda.declared.lambda_list.LambdaList.{LambdaList}
use Rattle.clos_world.specs.FunctionName.{setter_value}
use Rattle.clos_world.specs.Functions.{function_in}
use Rattle.clos_world.specs.Values.{last_first}
use Rattle.clos_world.specs.declared.condition.ConditionKind.TheVariants.{ProgramError, UndefinedFunction}
use Rattle.clos_world.specs.declared.functions.Function.{Function}
use Rattle.clos_meaning.specs.Accessors.{read_by, written_by}
use Rattle.clos_meaning.specs.Bodies.{body_run, scoped}
use Rattle.clos_meaning.specs.Contexts.{Context, known, running}
use Rattle.clos_meaning.specs.GenericCalls.{called_generic}
use Rattle.clos_meaning.specs.Outcome.{Run, Eval, stopped}
use Rattle.clos_meaning.specs.Parameters.{after_optional, are_even, fits, sources}
use Rattle.clos_meaning.specs.SystemMethods.{system_method_run}

-- ---- functions of the program's

-- the body runs where the arguments fit the lambda list (3.5.1); else PROGRAM-ERROR, before any is bound
abbrev pub applied_to : Eval → List Val → Function → Run
applied_to ev vs f w s = if fits f.lambda_list vs then body_run ev (known vs) (sources f.lambda_list vs) f.body w s else stopped ProgramError [] w s

-- the function, or the condition that there is none of this name
abbrev pub called_defined : Eval → List Val → Val → Option Function → Run
called_defined ev vs name None w s = stopped UndefinedFunction (name ∷ []) w s
called_defined ev vs name (Some f) w s = applied_to ev vs f w s

-- ---- functions by their symbols

-- the generic function of this name, else what a defun defined: no name has both
abbrev pub called_function : Eval → Name → List Val → Option ℕ → Run
called_function ev name vs None w s = called_defined ev vs (name_value name) (function_in w.functions name) w s
called_function ev name vs (Some g) w s = called_generic ev vs g (slice_get w.generics.functions g) w s

-- ---- methods

-- The names of keyword arguments are not checked again, but none may be without its argument.
abbrev pub keys_are_even : LambdaList → List Val → Bool
keys_are_even l vs = is_none l.keys || are_even (after_optional l vs)

-- what a method does with the arguments
abbrev pub method_body_run : Eval → Context → MethodBody → Run
method_body_run ev env (Body l fs) w s =
    if keys_are_even l env.arguments then body_run ev env (sources l env.arguments) fs w s else stopped ProgramError [] w s
method_body_run ev env (Reader slot) w s = read_by ev env slot env.arguments w s
method_body_run ev env (Writer slot) w s = written_by ev env slot env.arguments w s
method_body_run ev env (System f) w s = system_method_run ev f env.arguments w s

-- the method that was found by its number; where there is none, PROGRAM-ERROR
abbrev pub method_run : Eval → Context → Option Method → Run
method_run ev env None w s = stopped ProgramError [] w s
method_run ev env (Some m) w s = method_body_run ev env m.body w s

-- the form of which a method is made, with the arguments of the effective form and no variables
abbrev pub made_run : Eval → Context → Forms → Run
made_run ev env nil w s = stopped ProgramError [] w s
made_run ev env (cons f fs) w s = scoped (ev env f) [] w s

-- a method with these next methods, of which those that are made are made of these forms; or a made one
abbrev pub method_called : Eval → Context → Callable → List Callable → Forms → Run
method_called ev env (the_method m) next fs w s = method_run ev (running m next fs env) (slice_get w.generics.methods m) w s
method_called ev env made next fs w s = made_run ev env fs w s

-- ---- functions (setf name): the new value is their first argument, though it is evaluated last

-- a generic function, or what a defun defined
abbrev pub called_setter_by : Eval → Name → List Val → Option ℕ → Run
called_setter_by ev name vs None w s = called_defined ev vs (setter_value name) (function_in w.setters name) w s
called_setter_by ev name vs (Some g) w s = called_generic ev vs g (slice_get w.generics.functions g) w s

-- the values come as they were evaluated: those of the subforms of the place, and the new one last
abbrev pub called_setter : Eval → Name → List Val → Run
called_setter ev name vs w s = called_setter_by ev name (last_first vs) (named w.generics (Setf name)) w s
