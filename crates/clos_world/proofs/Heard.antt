-- What is heard, as it is kept.
use Rattle.std.proofs.Common.{◌≡◌, List, ◌++◌, refl, ap}
use Rattle.clos_watch.specs.Reserved.{Places}
use Rattle.clos_watch.specs.Watching.{Watched, Watching, watching}
use Rattle.clos_watch.specs.declared.notice.Notice.{Notice}
use Rattle.clos_world.specs.Hearing.{hearing_of, telling}
use Rattle.clos_world.specs.declared.hearing.Hearing as code

pub names_kept : (h : code.Hearing) → (hearing_of h).names ≡ h.names.items
unfolding hearing_of
names_kept h = refl

pub watching_kept : (h : code.Hearing) → (hearing_of h).watching ≡ watching h.watchers
unfolding hearing_of
watching_kept h = refl

pub notices_kept : (h : code.Hearing) → (hearing_of h).notices ≡ h.notices.items
unfolding hearing_of
notices_kept h = refl

-- with more notices
pub notices_told : (h : code.Hearing) (n : Places Notice) (more : List Notice) → n.items ≡ h.notices.items ++ more
    → hearing_of (record h { notices = n }) ≡ telling more (hearing_of h)
unfolding hearing_of
notices_told h n more e = ap (λ l. record (hearing_of h) { notices = l }) e

-- with room for more
pub room_made : (h : code.Hearing) (n : Places Notice) → n.items ≡ h.notices.items → hearing_of (record h { notices = n }) ≡ hearing_of h
unfolding hearing_of
room_made h n e = ap (λ l. record (hearing_of h) { notices = l }) e

-- with other dependents
pub watching_changed : (h : code.Hearing) (x : Watched) (w : Watching) → watching x ≡ w
    → hearing_of (record h { watchers = x }) ≡ record (hearing_of h) { watching = w }
unfolding hearing_of
watching_changed h x w e = ap (λ y. record (hearing_of h) { watching = y }) e
