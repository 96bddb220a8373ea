-- Standard method combination (HyperSpec 7.6.6.2): the form into which the methods are combined, the most specific first.
use Rattle.std.specs.Prelude.{ℕ, codes, List, [], ◌∷◌, reverse, if◌then◌else◌}
use Rattle.lisp_data.specs.Datum.{Dat, list, Dats, nil, cons}
use Rattle.clos_forms.specs.Effective.{effective_form}
use Rattle.clos_groups.specs.Group.{members}
use Rattle.clos_groups.specs.clos_method.declared.method.Method.{Method}
use Rattle.clos_comb.specs.Arguments.{is_no_data}
use Rattle.clos_comb.specs.Calls.{around, call_of, calls_before, methods_before, symbol_called}
use Rattle.clos_comb.specs.Groups.{standard_groups}
use Rattle.clos_comb.specs.Outcome.{Combined, bad_expansion, formed}

-- the most specific primary method, with the others as next methods
abbrev pub primary_call : List ℕ → Dats
primary_call [] = nil
primary_call (p ∷ ps) = cons (call_of p (methods_before ps nil)) nil

-- before methods, primary ones, and after methods, the least specific of these first; or one primary method alone
abbrev pub main : List ℕ → List ℕ → List ℕ → Dat
main [] (p ∷ []) [] = call_of p nil
main bs ps qs =
    list (cons (symbol_called (codes "MULTIPLE-VALUE-PROG1")) (cons (list (cons (symbol_called (codes "PROGN")) (calls_before bs (primary_call ps))))
    (calls_before (reverse qs) nil)))

-- the datum of the effective form: around, before, primary and after methods
abbrev pub standard_form : List ℕ → List ℕ → List ℕ → List ℕ → Dat
standard_form rs bs ps qs = around rs (main bs ps qs)

-- the methods of the group at this place
abbrev pub of_group : List Method → List ℕ → ℕ → List ℕ
of_group methods ms k = members methods standard_groups k ms

-- what these methods are combined into; there are no arguments to fit
abbrev pub standard_combined : List Method → Dats → List ℕ → Combined
standard_combined methods arguments ms =
    if is_no_data arguments
    then formed (effective_form (standard_form (of_group methods ms 0) (of_group methods ms 1) (of_group methods ms 2) (of_group methods ms 3)))
    else bad_expansion
