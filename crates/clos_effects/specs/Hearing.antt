-- What dependents hear of a form (AMOP chapter 6).
use Rattle.std.specs.Prelude.{◌≡◌, List, drop, length}
use Rattle.clos_definition.specs.clos_watch.Watching.{heard_after}
use Rattle.clos_definition.specs.clos_watch.declared.notice.Notice.{Notice}
use Rattle.clos_meaning.specs.clos_world.World.{State}

-- the notices of the changes that led from the one state to the other
abbrev pub since : State → State → List Notice
since w u = drop (length w.hearing.notices) u.hearing.notices

-- Each dependent heard those of these notices that are of its own metaobjects, in order. What each has heard stands in the lists by its place.
abbrev pub Heard : List (List Notice) → State → List (List Notice) → State → Type 0
Heard told w told' u = told' ≡ heard_after w.hearing.watching (since w u) told
