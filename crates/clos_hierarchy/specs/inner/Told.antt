-- What is told of the classes of a table.
use Rattle.std.specs.Prelude.{List}
use Rattle.clos_hierarchy.specs.Classes.{Classes}
use Rattle.clos_hierarchy.specs.declared.kept.Kept.{Kept}
use Rattle.clos_hierarchy.specs.inner.Direct.{AreDirect, Index}
use Rattle.clos_hierarchy.specs.inner.Kept.{Knows}
use Rattle.clos_hierarchy.specs.inner.Touched.{NoneBroken}

pub record Told : Type 0 where
  pub kept : List Kept  -- what is kept of each class
  pub direct : Index  -- the classes that are noted below each name

abbrev pub told : List Kept → Index → Told
told ks d = record { kept = ks; direct = d }

-- All that there is to say of the classes is kept, of none that there is no list, and each is noted below the names of its direct
-- superclasses.
pub record Tells (cs : Classes) (t : Told) : Type 0 where
  pub knows : Knows cs t.kept
  pub well : NoneBroken t.kept
  pub direct : AreDirect cs t.direct
