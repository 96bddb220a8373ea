-- The keys of uses of generic functions: the function, and all of the arguments that its methods and their order depend on.
use Rattle.std.specs.Prelude.{ℕ, suc, List, [], ◌∷◌, Some, None, take, if◌then◌else◌}
use Rattle.lisp_data.specs.Value.{Val}
use Rattle.clos_cache.specs.Key.{Argument, Key}
use Rattle.clos_generic.specs.Calls.{has_eql}
use Rattle.clos_world.specs.Dispatch.{required_by}
use Rattle.clos_world.specs.World.{State, class_of}

-- of an argument its class, and the argument itself where a method of the function has it as eql specializer at this place
abbrev pub argument_at : State → ℕ → ℕ → Val → Argument
argument_at w g place v = record {
  class = class_of w v;
  object = if has_eql w.generics g place v then Some v else None;
}

-- of these arguments, the first of which stands at this place
abbrev pub arguments_from : State → ℕ → ℕ → List Val → List Argument
arguments_from w g place [] = []
arguments_from w g place (v ∷ vs) = argument_at w g place v ∷ arguments_from w g (suc place) vs

-- the key of a call with these arguments, of which those of required parameters count
abbrev pub key_of : State → ℕ → List Val → Key
key_of w g vs = record { generic = g; arguments = arguments_from w g 0 (take (required_by w g) vs) }
