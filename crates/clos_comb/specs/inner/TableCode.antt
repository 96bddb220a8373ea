-- How the logic stores a table of combinations.
use Rattle.std.specs.Prelude.{ℕ, List, refl}
use Rattle.std.specs.Coded.{Coded, code_by, coded×, coded_list, coded_ℕ}
use Rattle.lisp_data.specs.Name.{Name}
use Rattle.lisp_data.specs.inner.NameCode.{name_code}
use Rattle.clos_groups.specs.clos_combination.contracts.combination.CombinationDefinition as definition
use Rattle.clos_groups.specs.clos_combination.declared.combination.CombinationDefinition.{CombinationDefinition}
use Rattle.clos_comb.specs.Table.{Table}

-- the entries, and how many there may be
abbrev Parts : Type 0
Parts = List (Name × CombinationDefinition) × ℕ

-- a table as these two
abbrev pub table_code : Coded Table
table_code =
    code_by Parts (coded× (coded_list (coded× name_code definition.the_row.coded)) coded_ℕ)
    (λ t. (t.defined, t.limit)) (λ p. record { defined = p.0; limit = p.1 }) (λ _. refl)
