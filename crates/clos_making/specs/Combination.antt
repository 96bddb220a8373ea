-- What a define-method-combination does (HyperSpec 7.7).
use Rattle.std.specs.Prelude.{[], ◌∷◌, if◌then◌else◌}
use Rattle.clos_forms.specs.Quotation.{name_value}
use Rattle.clos_machine.specs.clos_world.clos_cache.Cache.{of_combination}
use Rattle.clos_machine.specs.clos_world.clos_comb.Table.{has_room, is_predefined, name_of, with_combination}
use Rattle.clos_machine.specs.clos_world.clos_comb.clos_combination.declared.combination.CombinationDefinition.{CombinationDefinition}
use Rattle.clos_machine.specs.clos_world.declared.condition.ConditionKind.TheVariants.{ProgramError, TableLimit}
use Rattle.clos_machine.specs.clos_meaning.Outcome.{Gave, Noted, Run, stopped, step_then, took_effect}

-- the symbol names this combination from now on, and is given; the calls of functions that use it are concerned
abbrev pub combination_defined : CombinationDefinition → Run
combination_defined d w k =
    Noted (took_effect w (of_combination (name_of d) ∷ [])) (Gave (name_value (name_of d)) (record w { combinations = with_combination d w.combinations }) k)

-- a combination, in place of an older one of its name; the system's are not defined again
abbrev pub define_combination : CombinationDefinition → Run
define_combination d w k =
    if is_predefined (name_of d) then stopped ProgramError [] w k
    else if has_room w.combinations (name_of d) then step_then (combination_defined d) w k else stopped TableLimit [] w k
