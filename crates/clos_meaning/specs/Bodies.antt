-- Bodies of functions and methods (HyperSpec 3.4.1).
use Rattle.std.specs.Prelude.{List, [], ◌∷◌}
use Rattle.lisp_data.specs.Value.{Val, list, nil}
use Rattle.clos_forms.specs.Form.{Forms}
use Rattle.clos_world.specs.World.{Local, bound_as}
use Rattle.clos_meaning.specs.Contexts.{Context}
use Rattle.clos_meaning.specs.Control.{sequence}
use Rattle.clos_meaning.specs.Outcome.{Gave, Stopped, Run, Eval, then_do}
use Rattle.clos_meaning.specs.Parameters.{Source, Sources, argument, refused, init}
use Rattle.clos_meaning.specs.Variables.{binding}

-- with these variables and no others; those from before come back
abbrev pub restoring : List Local → Val → Run
restoring locals v w s = Gave v (bound_as locals w) s

-- what runs sees these alone; those from before come back with a value, but not after a condition
abbrev pub scoped : Run → List Local → Run
scoped run locals w s = then_do (run (bound_as locals w) s) (restoring w.locals)

-- the value of a parameter
abbrev pub source_value : Eval → Context → Source → Run
source_value ev env (argument v) w s = Gave v w s
source_value ev env (refused c) w s = Stopped c w s
source_value ev env (init f) w s = ev env f w s

-- Each parameter is bound before the next, but never a global variable; then the body.
abbrev pub parameters_run : Eval → Context → Sources → Forms → Run
parameters_run ev env [] fs w s = sequence ev env fs (list nil) w s
parameters_run ev env (p ∷ ps) fs w s = then_do (source_value ev env p.1 w s) (λ v. binding p.0 v (parameters_run ev env ps fs))

-- A body runs in a context of its own, with its parameters and no other variables.
abbrev pub body_run : Eval → Context → Sources → Forms → Run
body_run ev env ps body w s = scoped (parameters_run ev env ps body) [] w s
