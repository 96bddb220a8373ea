-- Methods by their numbers.
use Rattle.std.specs.Prelude.{ℕ, List, map}
use Rattle.lisp_data.specs.declared.ids.MethodId.{MethodId}

abbrev pub method_numbers : List MethodId → List ℕ
method_numbers ms = map (λ m. m.0) ms
