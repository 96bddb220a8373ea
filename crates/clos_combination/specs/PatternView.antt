-- The pattern that the code's stands for.
use Rattle.std.specs.Prelude.{map}
use Rattle.lisp_data.specs.ValueView.{value_of}
use Rattle.clos_combination.specs.Pattern as pattern
use Rattle.clos_combination.specs.declared.pattern.Wanted.{Wanted}
use Rattle.clos_combination.specs.declared.pattern.Wanted.TheVariants.{Anything, Equal, Nothing}
use Rattle.clos_combination.specs.declared.pattern.PatternShape.{PatternShape}
use Rattle.clos_combination.specs.declared.pattern.PatternShape.TheVariants.{Every, Listed}

-- what an element asks
abbrev pub wanted_of : Wanted → pattern.Wanted
wanted_of Anything = pattern.anything
wanted_of (Equal v) = pattern.equal_to (value_of v)
wanted_of Nothing = pattern.nothing

-- the pattern of a shape
abbrev pub pattern_of : PatternShape → pattern.Pattern
pattern_of Every = pattern.every
pattern_of (Listed ws more) = pattern.listed (map wanted_of ws) more
