-- The keys under which outcomes are kept.
use Rattle.std.specs.Prelude.{ℕ, List, ◌++◌, Bool, true, false, ◌&&◌, ◌==◌, Option, Some, None}
use Rattle.std.specs.List.{flat_map}
use Rattle.std.specs.Cmp.Lexicographic.{pointwise}
use Rattle.std.specs.Hash as fed
use Rattle.std.specs.Hash.{HashWrites}
use Rattle.lisp_data.specs.Value.{Val}
use Rattle.lisp_data.specs.Keys.{same_value, value_writes}

-- what a key knows of an argument: its class, and the argument itself where a method has it as eql specializer there
pub record Argument : Type 0 where
  pub class : ℕ
  pub object : Option Val

-- a generic function, and what is known of each required argument of a call of it
pub record Key : Type 0 where
  pub generic : ℕ
  pub arguments : List Argument

-- whether both are one object, or none is known of either
abbrev pub same_object : Option Val → Option Val → Bool
same_object None None = true
same_object (Some v) (Some w) = same_value v w
same_object None (Some w) = false
same_object (Some v) None = false

-- whether the same is known of both
abbrev pub same_argument : Argument → Argument → Bool
same_argument a b = a.class == b.class && same_object a.object b.object

-- .. of each, in order
abbrev pub same_arguments : List Argument → List Argument → Bool
same_arguments xs ys = pointwise same_argument xs ys

-- whether both are one key
abbrev pub same_key : Key → Key → Bool
same_key a b = a.generic == b.generic && same_arguments a.arguments b.arguments

-- an object feeds what its value does
abbrev pub object_writes : Option Val → HashWrites
object_writes None = fed.u8 0
object_writes (Some v) = value_writes v

-- an argument feeds its class, and then its object
abbrev pub argument_writes : Argument → HashWrites
argument_writes a = fed.u64 a.class ++ object_writes a.object

-- a key feeds its generic function, and then its arguments
abbrev pub key_writes : Key → HashWrites
key_writes k = fed.u64 k.generic ++ flat_map argument_writes k.arguments
