-- Which dependents classes and generic functions have, and of what they could hear (AMOP chapter 6).
use Rattle.std.specs.Prelude.{List, [], ◌++◌}
use Rattle.lisp_data.specs.Name.{Name}
use Rattle.clos_watch.specs.Watching.{Watching, nobody, watching}
use Rattle.clos_watch.specs.declared.notice.Notice.{Notice}
use Rattle.clos_world.specs.declared.hearing.Hearing as code

pub record Hearing : Type 0 where
  pub names : List Name  -- of the dependents that the session was handed, by their places
  pub watching : Watching  -- of each metaobject its dependents, by these places
  pub notices : List Notice  -- of all changes so far, in order, whether there was anybody to hear of them or not

-- the room that is reserved is none of it
unfoldable pub hearing_of : code.Hearing → Hearing
hearing_of h = record { names = h.names.items; watching = watching h.watchers; notices = h.notices.items }

-- before the first change
abbrev pub nothing_heard : List Name → Hearing
nothing_heard names = record { names = names; watching = nobody; notices = [] }

-- after more changes
abbrev pub telling : List Notice → Hearing → Hearing
telling notices h = record h { notices = h.notices ++ notices }
