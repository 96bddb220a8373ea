-- Applicability by the places of arguments.
use Rattle.std.specs.Prelude.{ℕ, Bool, false, List, slice_get}
use Rattle.std.specs.Option.{option_map_or}
use Rattle.lisp_data.specs.Print.{Specializer}
use Rattle.clos_method.specs.Applicable.{fits}
use Rattle.clos_method.specs.Arguments.{Argument}

abbrev pub fits_at : List Argument → ℕ → Specializer → Bool
fits_at args place s = option_map_or (λ a. fits a s) (slice_get args place) false
