-- Short forms of method combinations (HyperSpec 7.7 define-method-combination).
use Rattle.std.specs.Prelude.{ℕ, List, [], ◌∷◌, Option, Some, None, if◌then◌else◌}
use Rattle.lisp_data.specs.Datum.{Dat, symbol, list, Dats, nil, cons}
use Rattle.clos_forms.specs.Effective.{effective_form}
use Rattle.clos_groups.specs.Group.{members}
use Rattle.clos_groups.specs.clos_combination.declared.combination.ShortForm.{ShortForm}
use Rattle.clos_groups.specs.clos_method.declared.method.Method.{Method}
use Rattle.clos_comb.specs.Arguments.{short_direction}
use Rattle.clos_comb.specs.Calls.{around, call_of, calls_before}
use Rattle.clos_comb.specs.Direction.{directed}
use Rattle.clos_comb.specs.Groups.{short_groups}
use Rattle.clos_comb.specs.Outcome.{Combined, bad_expansion, formed}
use Rattle.clos_comb.specs.declared.direction.Direction.{Direction}

-- the operator on calls of the methods
abbrev pub operation : ShortForm → List ℕ → Dat
operation s ms = list (cons (symbol s.operator) (calls_before ms nil))

-- the call of one method may stand alone
abbrev pub operated : ShortForm → List ℕ → Dat
operated s (m ∷ []) = if s.identity then call_of m nil else operation s (m ∷ [])
operated s ms = operation s ms

-- the methods of the group at this place
abbrev pub of_group : ShortForm → List Method → List ℕ → ℕ → List ℕ
of_group s methods ms k = members methods (short_groups s.name) k ms

-- around methods, most specific first, and primary ones in this order
abbrev pub short_form : ShortForm → List ℕ → List ℕ → Direction → Dat
short_form s rs ps direction = around rs (operated s (directed direction ps))

-- what these methods are combined into in this order, where it is one
abbrev pub directed_combined : ShortForm → List Method → List ℕ → Option Direction → Combined
directed_combined s methods ms None = bad_expansion
directed_combined s methods ms (Some direction) =
    formed (effective_form (short_form s (of_group s methods ms 0) (of_group s methods ms 1) direction))

-- what these methods are combined into, with these arguments
abbrev pub short_combined : ShortForm → List Method → Dats → List ℕ → Combined
short_combined s methods arguments ms = directed_combined s methods ms (short_direction arguments)
