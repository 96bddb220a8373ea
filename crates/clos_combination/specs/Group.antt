-- Groups of methods (HyperSpec 7.7 define-method-combination).
use Rattle.std.specs.Prelude.{ℕ, List, [], ◌∷◌, Bool, true, codes, Option, Some, None, if◌then◌else◌}
use Rattle.std.specs.List.{list_all, list_any}
use Rattle.lisp_data.specs.Name.{Name, same_name}
use Rattle.lisp_data.specs.Datum.{Dat, integer, symbol, string, list, dotted, method, Dats, nil, cons}
use Rattle.clos_forms.specs.Binding.{each}
use Rattle.clos_forms.specs.Distinct.{are_distinct}
use Rattle.clos_forms.specs.Fault.{◌>>=◌}
use Rattle.clos_forms.specs.FunctionName.{variable_in}
use Rattle.clos_lambda.specs.Lists.{list_in}
use Rattle.clos_lambda.specs.Property.{are_properties, documentation_in, is_key, value_in}
use Rattle.clos_combination.specs.Keyword.{before_keyword, flag_in, from_keyword, or_false}
use Rattle.clos_combination.specs.Pattern.{Pattern, pattern_in}
use Rattle.clos_combination.specs.declared.group.GroupSpecifier.{GroupSpecifier}
use Rattle.clos_combination.specs.declared.group.Order.{Order}
use Rattle.clos_combination.specs.declared.group.Order.TheVariants.{First, Last, Parameter}

-- ---- patterns

-- a list with one pattern at least
abbrev pub unless_none : List Pattern → Option (List Pattern)
unless_none [] = None
unless_none (p ∷ ps) = Some (p ∷ ps)

-- those before the first keyword, of which there is one at least
abbrev pub patterns_in : Dats → Option (List Pattern)
patterns_in l = each pattern_in (before_keyword l) >>= unless_none

-- ---- options

-- the options of a group
abbrev pub group_keys : List (List ℕ)
group_keys = codes "DESCRIPTION" ∷ codes "ORDER" ∷ codes "REQUIRED" ∷ []

-- a keyword that says an order, or a variable
abbrev pub order_in : Dat → Option Order
order_in d =
    if is_key (codes "MOST-SPECIFIC-FIRST") d then Some First
    else if is_key (codes "MOST-SPECIFIC-LAST") d then Some Last
    else (variable_in d >>= λ n. Some (Parameter n))

-- the order, which is most specific first where none is given
abbrev pub or_first : Option Order → Order
or_first None = First
or_first (Some order) = order

-- ---- groups

-- what the options say, none of which stands twice
abbrev pub group_from : Name → List Pattern → Dats → Option GroupSpecifier
group_from name patterns l =
    value_in documentation_in (codes "DESCRIPTION") l
    >>= λ description. value_in order_in (codes "ORDER") l
    >>= λ order. value_in flag_in (codes "REQUIRED") l
    >>= λ required. Some (record { name = name; patterns = patterns; order = or_first order; required = or_false required })

-- a group with these options, where all are known
abbrev pub group_with : Name → List Pattern → Dats → Option GroupSpecifier
group_with name patterns l = if are_properties group_keys l then group_from name patterns l else None

-- a name, patterns, and options
abbrev pub listed_group : Dats → Option GroupSpecifier
listed_group nil = None
listed_group (cons name l) = variable_in name >>= λ n. patterns_in l >>= λ ps. group_with n ps (from_keyword l)

-- the group that a datum is
abbrev pub group_in : Dat → Option GroupSpecifier
group_in (integer n) = None
group_in (symbol name) = None
group_in (string s) = None
group_in (list l) = listed_group l
group_in (dotted l d) = None
group_in (method n) = None

-- the names of groups
abbrev pub group_names : List GroupSpecifier → List Name
group_names [] = []
group_names (g ∷ gs) = g.name ∷ group_names gs

-- no name twice
abbrev pub if_distinct_groups : List GroupSpecifier → Option (List GroupSpecifier)
if_distinct_groups gs = if are_distinct (group_names gs) then Some gs else None

-- groups, no name twice
abbrev pub groups_in : Dat → Option (List GroupSpecifier)
groups_in d = list_in d >>= each group_in >>= if_distinct_groups

-- ---- orders

-- whether the variable that says an order is one of these parameters
abbrev pub is_ordered : List Name → Order → Bool
is_ordered parameters First = true
is_ordered parameters Last = true
is_ordered parameters (Parameter name) = list_any (λ p. same_name p name) parameters

-- whether each group's is
abbrev pub are_ordered : List Name → List GroupSpecifier → Bool
are_ordered parameters gs = list_all (λ g. is_ordered parameters g.order) gs
