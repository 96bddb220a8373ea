-- Long forms of method combinations (HyperSpec 7.7 define-method-combination): a template gives the form, where the names of
-- groups stand for their methods, and parameters for arguments.
use Rattle.std.specs.Prelude.{ℕ, ◌+◌, ◌==◌, nat_le, Bool, List, [], ◌∷◌, ◌++◌, Option, Some, None, if◌then◌else◌}
use Rattle.std.specs.List.{list_all, list_any}
use Rattle.lisp_data.specs.Datum.{Dat, Dats, nil, nesting_of}
use Rattle.clos_forms.specs.Effective.{called_by, effective_form}
use Rattle.clos_forms.specs.Fault.{◌>>=◌}
use Rattle.clos_forms.specs.Form.{Form}
use Rattle.clos_groups.specs.Group.{members}
use Rattle.clos_groups.specs.clos_combination.declared.combination.LongForm.{LongForm}
use Rattle.clos_groups.specs.clos_combination.declared.group.GroupSpecifier.{GroupSpecifier}
use Rattle.clos_groups.specs.clos_combination.declared.group.Order.{Order}
use Rattle.clos_groups.specs.clos_combination.declared.group.Order.TheVariants.{First, Last, Parameter}
use Rattle.clos_groups.specs.clos_template.Expansion.{Expansion, made, bad, beyond}
use Rattle.clos_groups.specs.clos_template.Function.{from_elements}
use Rattle.clos_groups.specs.clos_template.Meaning.{meaning}
use Rattle.clos_groups.specs.clos_template.Scope.{Env, bound, value_of}
use Rattle.clos_groups.specs.clos_method.declared.method.Method.{Method}
use Rattle.clos_comb.specs.Arguments.{parameters_bound, takes}
use Rattle.clos_comb.specs.Calls.{methods_before}
use Rattle.clos_comb.specs.Direction.{direction_in, directed}
use Rattle.clos_comb.specs.Outcome.{Combined, effective, bad_expansion, expansion_limit}
use Rattle.clos_comb.specs.declared.direction.Direction.{Direction}
use Rattle.clos_comb.specs.declared.direction.Direction.TheVariants.{MostSpecificFirst, MostSpecificLast}

-- so many conses one expansion may make
abbrev pub most_conses : ℕ
most_conses = 65_536

-- so deep its result may nest
abbrev pub most_result_nesting : ℕ
most_result_nesting = 200

-- ---- groups as variables

-- the order of a group: a keyword's, or that which a parameter is bound to
abbrev pub direction_of : Env → Order → Option Direction
direction_of env First = Some MostSpecificFirst
direction_of env Last = Some MostSpecificLast
direction_of env (Parameter n) = value_of env n >>= direction_in

-- the list of these methods in this order
abbrev pub group_value : Direction → List ℕ → Dat
group_value direction ms = from_elements (methods_before (directed direction ms) nil)

-- The names of these groups, of which the first is at this place, each with the list of its methods; nothing where an order
-- is none. The parameters are bound so.
abbrev pub groups_bound : Env → (ℕ → List ℕ) → ℕ → List GroupSpecifier → Option Env
groups_bound env of_group k [] = Some []
groups_bound env of_group k (g ∷ gs) =
    direction_of env g.order >>= λ direction. groups_bound env of_group (k + 1) gs >>= λ more. Some (bound g.name (group_value direction (of_group k)) ∷ more)

-- ---- expansion

-- whether all methods that a form calls are among these
abbrev pub calls_among : List ℕ → Form → Bool
calls_among ms f = list_all (λ m. list_any (λ n. n == m) ms) (called_by f)

-- the form of the result, which calls methods of the call alone
abbrev pub result_formed : List ℕ → Option Form → Combined
result_formed ms None = bad_expansion
result_formed ms (Some f) = if calls_among ms f then effective f else bad_expansion

-- what the template comes to
abbrev pub expanded : List ℕ → Expansion → Combined
expanded ms (made d n) = if nat_le (nesting_of d) most_result_nesting then result_formed ms (effective_form d) else expansion_limit
expanded ms bad = bad_expansion
expanded ms beyond = expansion_limit

-- where parameters and groups are bound so; groups hide parameters
abbrev pub expanded_with : LongForm → List ℕ → Env → Option Env → Combined
expanded_with f ms env None = bad_expansion
expanded_with f ms env (Some groups) = expanded ms (meaning f.template (env ++ groups) most_conses)

-- what these methods are combined into, with these arguments
abbrev pub long_combined : LongForm → List Method → Dats → List ℕ → Combined
long_combined f methods arguments ms =
    if takes f.parameters arguments
    then expanded_with f ms (parameters_bound f.parameters arguments) (groups_bound (parameters_bound f.parameters arguments) (λ k. members methods f.groups k ms) 0 f.groups)
    else bad_expansion
