-- What holds of the classes of each state that a session comes to (HyperSpec 4.3.1, 4.3.5).
use Rattle.std.specs.Prelude.{◌≡◌, ◌↔◌, ℕ, true, List, Some, None}
use Rattle.lisp_data.specs.Name.{Name}
use Rattle.clos_session.specs.clos_world.Class.{precedence}
use Rattle.clos_session.specs.clos_world.Definitions.{Same}
use Rattle.clos_session.specs.clos_world.World.{State}
use Rattle.clos_session.specs.clos_world.clos_class.Table.{Table}
use Rattle.clos_session.specs.clos_world.clos_hierarchy.TableView.{IsListOf}
use Rattle.clos_session.specs.clos_world.clos_hierarchy.Ways.{IsIncomplete, IsSelfOrAbove, IsSuperclass}
use Rattle.clos_session.specs.clos_world.clos_precedence.Precedence.{has}
use Rattle.clos_session.specs.clos_world.declared.limits.Limits.{Limits}
use Rattle.clos_laws.specs.Reached.{IsReached}

-- The class precedence list of a class is the one that fits, with just the class and its superclasses. There is none exactly where the
-- class or one of its superclasses is not defined, or names a direct superclass that is not; and no class is its own superclass.
pub record AreListed (t : Table) : Type 0 where
  pub fits : (n : ℕ) (l : List ℕ) → precedence t n ≡ Some l → IsListOf t.table.classes n l
  pub members : (n : ℕ) (l : List ℕ) → precedence t n ≡ Some l → (m : ℕ) → (has l m ≡ true) ↔ IsSelfOrAbove t.table.classes n m
  pub none : (n : ℕ) → (precedence t n ≡ None) ↔ IsIncomplete t.table.classes n
  pub no_circle : (n : ℕ) → IsSuperclass t.table.classes n n → ⊥

-- So it is in each state that has the definitions of one to which a session comes, as those have in which its forms are evaluated.
abbrev pub ClassesAreListed : Type 0
ClassesAreListed = (limits : Limits) (names : List Name) (w u : State) → IsReached limits names w → Same w u → AreListed u.classes
