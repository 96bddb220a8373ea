-- The table of the program's combinations as its contracts see it.
use Rattle.std.proofs.Common.{◌≡◌, ℕ, zero, suc, List, [], ◌∷◌, true, false, refl, ap}
use Rattle.std.specs.Prelude.{option_map, if◌then◌else◌}
use Rattle.std.specs.List.{slice_get}
use Rattle.std.specs.Map.{lookup}
use Rattle.std.proofs.lemmas.Map.Made.{lookup-map_values}
use Rattle.lisp_data.specs.Name.{Name, same_name}
use Rattle.indexmap.specs.IndexMap.{insert_entry}
use Rattle.clos_comb.specs.Table.{with_named}
use Rattle.clos_comb.specs.TableView.{definition_of, entries_of, entry_of}
use Rattle.clos_comb.specs.declared.combinations.Defined.{Defined}

pub inserted : (es : List (Name × Defined)) (name : Name) (d : Defined) → entries_of (insert_entry same_name es name d) ≡ with_named name (definition_of d) (entries_of es)
inserted [] name d = refl
inserted (e ∷ es) name d =
    elim (same_name name e.0)
    as (λ b. entries_of (if b then (e.0, d) ∷ es else e ∷ insert_entry same_name es name d)
    ≡ (if b then (e.0, definition_of d) ∷ entries_of es else entry_of e ∷ with_named name (definition_of d) (entries_of es)))
    [ true ↦ refl | false ↦ ap (λ l. entry_of e ∷ l) (inserted es name d) ]

-- what a name is found to stand for
pub looked_up : (es : List (Name × Defined)) (name : Name) → lookup (same_name name) (entries_of es) ≡ option_map definition_of (lookup (same_name name) es)
looked_up es name = lookup-map_values definition_of (same_name name) es

-- the name at a place
pub name_at : (es : List (Name × Defined)) (i : ℕ) → option_map (λ d. d.0) (slice_get (entries_of es) i) ≡ option_map (λ e. e.0) (slice_get es i)
name_at [] i = refl
name_at (e ∷ es) zero = refl
name_at (e ∷ es) (suc i) = name_at es i
