-- How large lists may grow (HyperSpec 15.1.1 leaves it to the implementation).
use Rattle.std.specs.Prelude.{ℕ, ⊤}
use Rattle.lisp_data.specs.declared.limits.ListFault.{ListFault}
use Rattle.lisp_data.specs.declared.limits.ListFault.TheVariants.{Limit, Memory}

abbrev pub most_elements : ℕ
most_elements = 1048576

abbrev pub most_nesting : ℕ
most_nesting = 1000

-- what is so where a limit was met. Where memory ran out nothing is promised
abbrev pub OnLimit : ListFault → Type 0 → Type 0
OnLimit Limit P = P
OnLimit Memory P = ⊤
