use Rattle.std.proofs.Common.{◌≡◌, ◌∷◌, take, map}
use Rattle.lisp_data.specs.ValueView.{value_of}
use Rattle.clos_world.specs.FunctionName.{called_value}
use Rattle.clos_world.proofs.condition.about_call.Given as goal

abbrev pub invariant-loop-argument : goal.invariant-loop-argument
invariant-loop-argument l = l.items ≡ called_value l.name ∷ map value_of (take l.argument-index l.arguments)
