-- What the code's combinations stand for.
use Rattle.std.specs.Prelude.{List, map}
use Rattle.lisp_data.specs.Name.{Name}
use Rattle.clos_groups.specs.clos_combination.declared.combination.CombinationDefinition as of
use Rattle.clos_groups.specs.clos_combination.declared.combination.CombinationDefinition.TheVariants as definition
use Rattle.clos_comb.specs.declared.combinations.Defined.{Defined}
use Rattle.clos_comb.specs.declared.combinations.Defined.TheVariants.{Short, Long}

-- the definition of a combination
abbrev pub definition_of : Defined → of.CombinationDefinition
definition_of (Short s) = definition.Short s
definition_of (Long f) = definition.Long f

-- an entry of the table
abbrev pub entry_of : Name × Defined → Name × of.CombinationDefinition
entry_of e = (e.0, definition_of e.1)

-- all of them
abbrev pub entries_of : List (Name × Defined) → List (Name × of.CombinationDefinition)
entries_of es = map entry_of es
