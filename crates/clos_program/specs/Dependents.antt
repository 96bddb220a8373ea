-- The kinds of notices.
use Rattle.std.specs.Prelude.{ℤ, pos}
use Rattle.clos_ending.specs.clos_system.clos_session.clos_watch.declared.notice.Notice.{Notice}
use Rattle.clos_ending.specs.clos_system.clos_session.clos_watch.declared.notice.Notice.TheVariants.{ClassRedefined, MethodAdded, MethodRemoved, GenericRedefined}

abbrev pub kind_number : Notice → ℤ
kind_number (ClassRedefined c) = pos 1
kind_number (MethodAdded g m) = pos 2
kind_number (MethodRemoved g m) = pos 3
kind_number (GenericRedefined g) = pos 4
