-- The tables of global variables and of functions as their contracts see them.
use Rattle.std.proofs.Common.{◌≡◌, ℕ, zero, suc, List, [], ◌∷◌, true, false, Option, Some, None, map, refl, ap, sym, ◌∙◌, true≢false}
use Rattle.std.specs.Borrow.{Bor}
use Rattle.std.specs.Prelude.{option_copied, option_map, is_some, if◌then◌else◌}
use Rattle.std.specs.List.{slice_get}
use Rattle.std.specs.Map.{lookup}
use Rattle.std.proofs.lemmas.Map.Made.{lookup-map_values}
use Rattle.lisp_data.specs.Name.{Name, same_name}
use Rattle.lisp_data.specs.ValueView.{value_of}
use Rattle.lisp_data.specs.declared.value.Value.{Value}
use Rattle.indexmap.specs.IndexMap.{insert_entry}
use Rattle.clos_world.specs.Functions.{with_function}
use Rattle.clos_world.specs.Globals.{if_bound, is_global, global_value, with_global}
use Rattle.clos_world.specs.GlobalsView.{global_of}
use Rattle.clos_world.specs.declared.functions.Function.{Function}

still_some : {A B : Type 0} (f : A → B) (o : Option A) → is_some (option_map f o) ≡ is_some o
still_some f None = refl
still_some f (Some x) = refl

pub is_found : (es : List (Name × Option Value)) (name : Name) (o : Option (Option Value)) → o ≡ lookup (same_name name) es → is_some o ≡ is_global (map global_of es) name
is_found es name o e =
    ap is_some e ∙ sym (ap is_some (lookup-map_values (option_map value_of) (same_name name) es) ∙ still_some (option_map value_of) (lookup (same_name name) es))

pub held : {A : Type 0} (o : Option (Bor A)) → is_some o ≡ is_some (option_copied o)
held None = refl
held (Some x) = refl

pub no_global : (es : List (Name × Option Value)) (name : Name) → lookup (same_name name) es ≡ None → is_global (map global_of es) name ≡ true → ⊥
no_global es name e h = true≢false (sym h ∙ sym (is_found es name None (sym e)))

pub value_found : (es : List (Name × Option Value)) (name : Name) → if_bound (option_map (option_map value_of) (lookup (same_name name) es)) ≡ global_value (map global_of es) name
value_found es name = ap if_bound (sym (lookup-map_values (option_map value_of) (same_name name) es))

pub name_at : (es : List (Name × Option Value)) (i : ℕ) → option_map (λ g. g.0) (slice_get (map global_of es) i) ≡ option_map (λ e. e.0) (slice_get es i)
name_at [] i = refl
name_at (e ∷ es) zero = refl
name_at (e ∷ es) (suc i) = name_at es i

pub set_of_map : (es : List (Name × Option Value)) (name : Name) (value : Option Value)
    → map global_of (insert_entry same_name es name value) ≡ with_global name (option_map value_of value) (map global_of es)
set_of_map [] name value = refl
set_of_map (e ∷ es) name value =
    elim (same_name name e.0)
    as (λ b. map global_of (if b then (e.0, value) ∷ es else e ∷ insert_entry same_name es name value)
    ≡ (if b then (e.0, option_map value_of value) ∷ map global_of es else global_of e ∷ with_global name (option_map value_of value) (map global_of es)))
    [ true ↦ refl | false ↦ ap (λ l. global_of e ∷ l) (set_of_map es name value) ]

pub defined_in : (es : List (Name × Function)) (name : Name) (f : Function) → insert_entry same_name es name f ≡ with_function name f es
defined_in [] name f = refl
defined_in (e ∷ es) name f =
    elim (same_name name e.0)
    as (λ b. (if b then (e.0, f) ∷ es else e ∷ insert_entry same_name es name f) ≡ (if b then (e.0, f) ∷ es else e ∷ with_function name f es))
    [ true ↦ refl | false ↦ ap (λ l. e ∷ l) (defined_in es name f) ]
