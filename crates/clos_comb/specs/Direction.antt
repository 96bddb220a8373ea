-- The order of the methods of a group (HyperSpec 7.7 define-method-combination).
use Rattle.std.specs.Prelude.{ℕ, codes, List, reverse, Option, Some, None, if◌then◌else◌}
use Rattle.lisp_data.specs.Datum.{Dat}
use Rattle.clos_groups.specs.clos_lambda.Property.{is_key}
use Rattle.clos_comb.specs.declared.direction.Direction.{Direction}
use Rattle.clos_comb.specs.declared.direction.Direction.TheVariants.{MostSpecificFirst, MostSpecificLast}

-- the order that a keyword says
abbrev pub direction_in : Dat → Option Direction
direction_in d =
    if is_key (codes "MOST-SPECIFIC-FIRST") d then Some MostSpecificFirst
    else if is_key (codes "MOST-SPECIFIC-LAST") d then Some MostSpecificLast else None

-- methods in this order, of which the most specific is the first
abbrev pub directed : Direction → List ℕ → List ℕ
directed MostSpecificFirst ms = ms
directed MostSpecificLast ms = reverse ms
