-- A form that is refused, by a condition or for want of memory, defines nothing (HyperSpec 9.1).
use Rattle.std.specs.Prelude.{⊤}
use Rattle.clos_perform.specs.clos_world.Definitions.{Same}
use Rattle.clos_perform.specs.clos_world.World.{State}
use Rattle.clos_session.specs.declared.session.Reply.{Reply}
use Rattle.clos_session.specs.declared.session.Reply.TheVariants.{Value, Condition, Storage}

-- where a form is refused by a condition, or memory was refused, the definitions are those before
abbrev pub DefinesNothing : Reply → State → State → Type 0
DefinesNothing (Value v) w u = ⊤
DefinesNothing (Condition number items) w u = Same w u
DefinesNothing (Storage k) w u = Same w u
