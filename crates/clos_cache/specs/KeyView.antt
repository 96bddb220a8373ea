-- What the arguments of a key stand for.
use Rattle.std.specs.Prelude.{List, [], map, option_map}
use Rattle.lisp_data.specs.ValueView.{value_of}
use Rattle.clos_cache.specs.Key.{Argument}
use Rattle.clos_cache.specs.declared.key.Argument as of_code
use Rattle.clos_cache.specs.declared.key.Arguments.{Arguments}
use Rattle.clos_cache.specs.declared.key.Arguments.TheVariants.{Zero, One, Two, Many}

-- what an argument of the code's stands for
abbrev pub argument_of : of_code.Argument → Argument
argument_of a = record { class = a.class.0; object = option_map value_of a.object }

-- several, in order
abbrev pub arguments_in : List of_code.Argument → List Argument
arguments_in xs = map argument_of xs

-- those of a key, however it keeps them
abbrev pub arguments_of : Arguments → List Argument
arguments_of Zero = []
arguments_of (One xs) = arguments_in xs
arguments_of (Two xs) = arguments_in xs
arguments_of (Many xs) = arguments_in xs.items
