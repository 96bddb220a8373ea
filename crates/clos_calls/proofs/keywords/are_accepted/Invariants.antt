use Rattle.std.proofs.Common.{◌≡◌, length, map}
use Rattle.lisp_data.specs.ValueView.{value_of}
use Rattle.clos_method.specs.MethodIds.{method_numbers}
use Rattle.clos_machine.specs.clos_world.World.{seen}
use Rattle.clos_machine.specs.clos_meaning.GenericCalls.{are_accepted}
use Rattle.clos_calls.proofs.keywords.are_accepted.Given as goal

abbrev pub invariant-loop-name : goal.invariant-loop-name
invariant-loop-name l =
    are_accepted (seen l.fn.world).generics l.fn.id.0 (method_numbers l.fn.methods) (map value_of l.left)
    ≡ are_accepted (seen l.fn.world).generics l.fn.id.0 (method_numbers l.fn.methods) (map value_of l.fn.arguments)

abbrev pub decreases-loop-name : goal.decreases-loop-name
decreases-loop-name l = length l.left
