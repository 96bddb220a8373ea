-- What follows from the definitions of effective forms (HyperSpec 7.6.6.2).
use Rattle.std.specs.Prelude.{◌≡◌, ℕ, List, Some}
use Rattle.clos_forms.specs.Effective.{effective_form}
use Rattle.clos_comb.specs.Standard.{standard_form}
use Rattle.clos_comb.specs.Tree.{standard_tree}

-- the form that is made at once for the standard combination is that of its datum
abbrev pub MakesItsForm : Type 0
MakesItsForm = (rs bs ps qs : List ℕ) → effective_form (standard_form rs bs ps qs) ≡ Some (standard_tree rs bs ps qs)
