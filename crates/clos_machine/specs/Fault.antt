-- The conditions that functions of values signal, as the machine tells them.
use Rattle.std.specs.Prelude.{◌≡◌}
use Rattle.lisp_prims.specs.Fault as prims
use Rattle.clos_meaning.specs.clos_world.declared.condition.Condition.{Condition}
use Rattle.clos_meaning.specs.clos_world.declared.condition.Stop.{Stop}
use Rattle.clos_meaning.specs.clos_world.declared.condition.Stop.TheVariants.{Refused, Storage}
use Rattle.clos_meaning.specs.Fault.{condition_of}

-- this condition is told, unless memory ran out
abbrev pub TellsCondition : Condition → Stop → Type 0
TellsCondition d (Refused c) = c ≡ d
TellsCondition d Storage = Unit {0}

-- the condition of a function of values is told, unless memory ran out
abbrev pub Signals : prims.Condition → Stop → Type 0
Signals c (Refused d) = d ≡ condition_of c
Signals c Storage = Unit {0}
