-- Qualifiers (HyperSpec 7.6.6.1, 7.6.6.2).
use Rattle.std.specs.Prelude.{Bool, List, map}
use Rattle.std.specs.Cmp.Lexicographic.{pointwise}
use Rattle.lisp_data.specs.Keys.{same_value}
use Rattle.lisp_data.specs.Value.{Val}
use Rattle.lisp_data.specs.ValueView.{value_of}
use Rattle.lisp_data.specs.declared.value.Value.{Value}

abbrev pub values_in : List Value → List Val
values_in vs = map value_of vs

-- whether both are the same qualifiers in the same order
abbrev pub same_qualifiers : List Val → List Val → Bool
same_qualifiers xs ys = pointwise same_value xs ys
