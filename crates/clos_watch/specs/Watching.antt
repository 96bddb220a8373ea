-- The dependents that metaobjects have, by their places in the session's list of dependents.
use Rattle.std.specs.Prelude.{suc, ℕ, ◌==◌, Bool, false, List, [], ◌∷◌, ◌++◌, slice_get, unwrap_or, if◌then◌else◌}
use Rattle.std.specs.List.{list_any}
use Rattle.clos_watch.specs.declared.notice.Metaobject.{Metaobject}
use Rattle.clos_watch.specs.declared.notice.Metaobject.TheVariants.{Class, Generic}
use Rattle.clos_watch.specs.declared.notice.Notice.{Notice}
use Rattle.clos_watch.specs.declared.notice.Notice.TheVariants.{ClassRedefined, MethodAdded, MethodRemoved, GenericRedefined}

-- the dependents of each class and of each generic function, in order of addition
abbrev pub Watching : Type 0
Watching = Metaobject → List ℕ

abbrev pub has : List ℕ → ℕ → Bool
has xs n = list_any (λ x. n == x) xs

abbrev pub row_at : List (List ℕ) → ℕ → List ℕ
row_at rows n = unwrap_or (slice_get rows n) []

-- the same in lists, by the numbers of the classes and those of the generic functions
pub record Watched : Type 0 where
  pub classes : List (List ℕ)
  pub generics : List (List ℕ)

abbrev pub watching : Watched → Watching
watching w (Class c) = row_at w.classes c.0
watching w (Generic g) = row_at w.generics g.0

-- whether they are one
abbrev pub is_same : Metaobject → Metaobject → Bool
is_same (Class c) (Class d) = c.0 == d.0
is_same (Class c) (Generic g) = false
is_same (Generic g) (Class c) = false
is_same (Generic g) (Generic h) = g.0 == h.0

-- these and one more, which comes last, unless it is among them
abbrev pub with_place : List ℕ → ℕ → List ℕ
with_place xs n = if has xs n then xs else xs ++ n ∷ []

-- these without this one
abbrev pub without_place : List ℕ → ℕ → List ℕ
without_place [] n = []
without_place (x ∷ xs) n = if n == x then xs else x ∷ without_place xs n

-- no metaobject has a dependent
abbrev pub nobody : Watching
nobody m = []

-- with a dependent of a metaobject, which comes last, unless it has it
abbrev pub with_dependent : Metaobject → ℕ → Watching → Watching
with_dependent m p w n = if is_same m n then with_place (w n) p else w n

-- without that dependent of it
abbrev pub without_dependent : Metaobject → ℕ → Watching → Watching
without_dependent m p w n = if is_same m n then without_place (w n) p else w n

-- what a notice is of
abbrev pub changed : Notice → Metaobject
changed (ClassRedefined c) = Class c
changed (MethodAdded g m) = Generic g
changed (MethodRemoved g m) = Generic g
changed (GenericRedefined g) = Generic g

-- whether the dependent at this place hears a notice
abbrev pub hears : Watching → Notice → ℕ → Bool
hears w x n = has (w (changed x)) n

-- how many of these notices it hears
abbrev pub times_told : Watching → List Notice → ℕ → ℕ
times_told w [] n = 0
times_told w (x ∷ xs) n = if hears w x n then suc (times_told w xs n) else times_told w xs n

-- those of these notices that it hears, in order
abbrev pub heard_by : Watching → List Notice → ℕ → List Notice
heard_by w [] n = []
heard_by w (x ∷ xs) n = if hears w x n then x ∷ heard_by w xs n else heard_by w xs n

-- what each has heard after these notices, where this is what each had heard; the first list is that of the dependent at this place
abbrev pub heard_from : Watching → List Notice → ℕ → List (List Notice) → List (List Notice)
heard_from w xs n [] = []
heard_from w xs n (h ∷ hs) = (h ++ heard_by w xs n) ∷ heard_from w xs (suc n) hs

-- by their places
abbrev pub heard_after : Watching → List Notice → List (List Notice) → List (List Notice)
heard_after w xs hs = heard_from w xs 0 hs
