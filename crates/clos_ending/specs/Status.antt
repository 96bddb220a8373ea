-- The statuses with which a program ends.
use Rattle.std.specs.Prelude.{ℕ, nat_lt, ◌||◌, Bool, if◌then◌else◌}
use Rattle.clos_system.specs.declared.transcript.Summary.{Summary}

-- whether a condition or storage line was written
abbrev pub is_told : Summary → Bool
is_told n = nat_lt 0 n.conditions || nat_lt 0 n.storages

-- the exit status of a run, and that after a fault
abbrev pub status_of : Bool → ℕ
status_of told = if told then 1 else 0

abbrev pub fault_status : ℕ
fault_status = 3
