-- Which classes have to come before others by what some name (HyperSpec 4.3.5).
use Rattle.std.specs.Prelude.{◌≡◌, true, false, List, [], ◌∷◌, ◌++◌, if◌then◌else◌}
use Rattle.lisp_data.specs.Name.{Name, same_name}
use Rattle.clos_circle.specs.Circle.{are_next, is_circle}
use Rattle.clos_circle.specs.DefinitionView.{direct_of}
use Rattle.clos_circle.specs.declared.precedence.Edge.{Edge}
use Rattle.clos_circle.specs.declared.relation.Relation.{Relation}
use Rattle.clos_circle.specs.declared.relation.Relation.TheVariants.{Above, Before}
use Rattle.clos_circle.specs.inner.Upward.{is_among}

-- those that stand just before this class, after the class that names them or after it alone
abbrev pub next_before : Name → List Name → Name → List Name
next_before last [] x = []
next_before last (y ∷ ys) x = if same_name y x then last ∷ next_before y ys x else next_before y ys x

-- those that have to come before it by what these classes name
abbrev pub befores : (Name → List Name) → List Name → Name → List Name
befores f [] x = []
befores f (by ∷ bys) x = next_before by (f by) x ++ befores f bys x

abbrev pub related_by : Relation → Name → List Name
related_by (Above d) x = direct_of d x
related_by (Before d names) x = befores (direct_of d) names.now x

-- the first of these by which one has to come before the other
abbrev pub by_of : (Name → List Name) → List Name → Name → Name → Name
by_of f [] before after = before
by_of f (x ∷ xs) before after = if are_next x (f x) before after then x else by_of f xs before after

abbrev pub edge_for : (Name → List Name) → List Name → Name → Name → Edge
edge_for f names before after = record { before = before; after = after; by = by_of f names before after }

-- of each class and the one after it
abbrev pub edges_for : (Name → List Name) → List Name → List Name → List Edge
edges_for f names [] = []
edges_for f names (x ∷ []) = []
edges_for f names (x ∷ y ∷ ys) = edge_for f names x y ∷ edges_for f names (y ∷ ys)

-- This is a circle, or there is none that begins with one of these classes.
abbrev pub FindsAmong : (Name → List Name) → List Name → List Name → Type 0
FindsAmong g names [] = (x : Name) (xs : List Name) → is_among names x ≡ true → is_circle g (x ∷ xs) ≡ false
FindsAmong g names (y ∷ ys) = is_circle g (y ∷ ys) ≡ true
