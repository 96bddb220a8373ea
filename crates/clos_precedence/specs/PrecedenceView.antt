-- Classes by their numbers.
use Rattle.std.specs.Prelude.{ℕ, List, map, reverse}
use Rattle.lisp_data.specs.declared.ids.ClassId.{ClassId}

abbrev pub numbers : List ClassId → List ℕ
numbers cs = map (λ c. c.0) cs

abbrev pub latest_first : List ClassId → List ℕ
latest_first cs = reverse (numbers cs)
