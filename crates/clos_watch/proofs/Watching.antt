-- The dependents of all metaobjects, where those of one change.
use Rattle.std.proofs.Common.{◌≡◌, ℕ, ◌==◌, List, [], refl}
use Rattle.std.specs.Prelude.{if◌then◌else◌}
use Rattle.std.proofs.Math.Path.{fun_ext}
use Rattle.lisp_data.specs.declared.ids.ClassId.{ClassId}
use Rattle.lisp_data.specs.declared.ids.GenericId.{GenericId}
use Rattle.clos_watch.specs.Watching.{Watched, nobody, row_at, watching, with_dependent, with_place, without_dependent, without_place}
use Rattle.clos_watch.specs.declared.notice.Metaobject.{Metaobject}
use Rattle.clos_watch.specs.declared.notice.Metaobject.TheVariants.{Class, Generic}

abbrev rows : List (List ℕ) → List (List ℕ) → Watched
rows cs gs = record { classes = cs; generics = gs }

pub nobody_yet : watching (rows [] []) ≡ nobody
nobody_yet = fun_ext go
  where
    go : (m : Metaobject) → watching (rows [] []) m ≡ nobody m
    go (Class c) = refl
    go (Generic g) = refl

module _ (cs cs' gs gs' : List (List ℕ)) where
  pub same_classes : ((n : ℕ) → row_at cs' n ≡ row_at cs n) → watching (rows cs' gs) ≡ watching (rows cs gs)
  same_classes h = fun_ext go
    where
      go : (m : Metaobject) → watching (rows cs' gs) m ≡ watching (rows cs gs) m
      go (Class c) = h c.0
      go (Generic g) = refl

  pub same_generics : ((n : ℕ) → row_at gs' n ≡ row_at gs n) → watching (rows cs gs') ≡ watching (rows cs gs)
  same_generics h = fun_ext go
    where
      go : (m : Metaobject) → watching (rows cs gs') m ≡ watching (rows cs gs) m
      go (Class c) = refl
      go (Generic g) = h g.0

  module _ (p : ℕ) where
    pub with_class : (c : ClassId) → ((n : ℕ) → row_at cs' n ≡ (if c.0 == n then with_place (row_at cs n) p else row_at cs n))
        → watching (rows cs' gs) ≡ with_dependent (Class c) p (watching (rows cs gs))
    with_class c h = fun_ext go
      where
        go : (m : Metaobject) → watching (rows cs' gs) m ≡ with_dependent (Class c) p (watching (rows cs gs)) m
        go (Class d) = h d.0
        go (Generic g) = refl

    pub with_generic : (g : GenericId) → ((n : ℕ) → row_at gs' n ≡ (if g.0 == n then with_place (row_at gs n) p else row_at gs n))
        → watching (rows cs gs') ≡ with_dependent (Generic g) p (watching (rows cs gs))
    with_generic g h = fun_ext go
      where
        go : (m : Metaobject) → watching (rows cs gs') m ≡ with_dependent (Generic g) p (watching (rows cs gs)) m
        go (Class c) = refl
        go (Generic f) = h f.0

    pub without_class : (c : ClassId) → ((n : ℕ) → row_at cs' n ≡ (if c.0 == n then without_place (row_at cs n) p else row_at cs n))
        → watching (rows cs' gs) ≡ without_dependent (Class c) p (watching (rows cs gs))
    without_class c h = fun_ext go
      where
        go : (m : Metaobject) → watching (rows cs' gs) m ≡ without_dependent (Class c) p (watching (rows cs gs)) m
        go (Class d) = h d.0
        go (Generic g) = refl

    pub without_generic : (g : GenericId) → ((n : ℕ) → row_at gs' n ≡ (if g.0 == n then without_place (row_at gs n) p else row_at gs n))
        → watching (rows cs gs') ≡ without_dependent (Generic g) p (watching (rows cs gs))
    without_generic g h = fun_ext go
      where
        go : (m : Metaobject) → watching (rows cs gs') m ≡ without_dependent (Generic g) p (watching (rows cs gs)) m
        go (Class c) = refl
        go (Generic f) = h f.0
