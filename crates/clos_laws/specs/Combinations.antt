-- What holds of the method combinations of each state that a session comes to (HyperSpec 7.6.6.4).
use Rattle.std.specs.Prelude.{◌≡◌, true, List, is_some}
use Rattle.lisp_data.specs.Name.{Name}
use Rattle.clos_generic.specs.Sound.{Each}
use Rattle.clos_generic.specs.Table.{Function}
use Rattle.clos_session.specs.clos_world.Definitions.{Same}
use Rattle.clos_session.specs.clos_world.World.{State}
use Rattle.clos_session.specs.clos_world.clos_comb.Table.{Table, combination_named}
use Rattle.clos_session.specs.clos_world.declared.limits.Limits.{Limits}
use Rattle.clos_laws.specs.Reached.{IsReached}

-- the method combination of a generic function is one of the system's, or is defined
abbrev pub HasCombination : Table → Function → Type 0
HasCombination t f = is_some (combination_named t f.combination.name) ≡ true

-- So it is of all functions, in each state that has the definitions of one to which a session comes.
abbrev pub CombinationsAreDefined : Type 0
CombinationsAreDefined = (limits : Limits) (names : List Name) (w u : State) → IsReached limits names w → Same w u
    → Each (HasCombination u.combinations) u.generics.functions
