use Rattle.std.proofs.Common.{◌≡◌, ◌++◌, take}
use Rattle.std.specs.List.{flat_map}
use Rattle.clos_ending.specs.clos_system.clos_session.Session.{state_of}
use Rattle.clos_program.specs.Notices.{notice_line}
use Rattle.clos_program.proofs.notices.add_notices.Given as goal

abbrev pub invariant-loop-notice : goal.invariant-loop-notice
invariant-loop-notice g l =
    l.text.items ≡ l.initial.text.items ++ flat_map (notice_line (state_of l.session) l.name) (take l.notice-index l.notices)
