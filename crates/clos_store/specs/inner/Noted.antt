-- What is noted of instances that are up to date.
use Rattle.std.specs.Prelude.{◌≡◌, ◌≤◌, ℕ, List, Option, Some, None, length, slice_get}
use Rattle.clos_class.specs.Table.{Table}
use Rattle.clos_store.specs.Objects.{due_for}
use Rattle.clos_store.specs.Store.{Contents}

-- Of each instance it is noted how many definitions of classes there had been when it was last seen to be up to date, if it was. If there
-- were as many as now, it is up to date.
pub record AreNoted (t : Table) (w : Contents) (now : ℕ) (notes : List (Option ℕ)) : Type 0 where
  pub each : length notes ≡ length w.instances
  pub past : (n m : ℕ) → slice_get notes n ≡ Some (Some m) → m ≤ now
  pub up_to_date : (n : ℕ) → slice_get notes n ≡ Some (Some now) → due_for t (slice_get w.instances n) ≡ None
