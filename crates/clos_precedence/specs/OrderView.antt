-- Which classes are done, and what stands before each, as the code keeps them by numbers.
use Rattle.std.specs.Prelude.{◌≡◌, ℕ, Bool, false, List, [], ◌∷◌, slice_get, unwrap_or, map, if◌then◌else◌}
use Rattle.std.specs.declared.alloc.Global.{Global}
use Rattle.std.specs.declared.vec.Vec.{Vec}
use Rattle.lisp_data.specs.declared.ids.ClassId.{ClassId}
use Rattle.clos_precedence.specs.Precedence.{Supers, has, are_done, is_free}
use Rattle.clos_precedence.specs.PrecedenceView.{numbers}

abbrev pub is_marked : List Bool → ℕ → Bool
is_marked marks x = unwrap_or (slice_get marks x) false

-- just these are marked
abbrev pub Marks : List Bool → List ℕ → Type 0
Marks marks classes = (x : ℕ) → is_marked marks x ≡ has classes x

-- those that were seen, the latest first, after this one was met
abbrev pub with_seen : List ℕ → ℕ → List ℕ
with_seen seen x = if has seen x then seen else x ∷ seen

-- the same after all these were met, one after another
abbrev pub with_all_seen : List ℕ → List ℕ → List ℕ
with_all_seen seen [] = seen
with_all_seen seen (x ∷ xs) = with_all_seen (with_seen seen x) xs

abbrev pub rows_of : List (Vec ClassId Global) → List (List ℕ)
rows_of rows = map (λ row. numbers row.items) rows

abbrev pub row_at : List (List ℕ) → ℕ → List ℕ
row_at rows x = unwrap_or (slice_get rows x) []

-- By these rows a class is free just where all in its row are done.
abbrev pub TellsFree : Supers → List ℕ → List (List ℕ) → Type 0
TellsFree f all rows = (done : List ℕ) (x : ℕ) → are_done done (row_at rows x) ≡ is_free f all done x
