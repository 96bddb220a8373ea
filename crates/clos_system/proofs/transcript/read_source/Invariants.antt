use Rattle.std.proofs.Common.{◌≤◌, length}
use Rattle.std.specs.Io.KnownBytes.{Consumes}
use Rattle.clos_system.proofs.transcript.read_source.Given as goal

abbrev pub invariant-loop : goal.invariant-loop
invariant-loop g l = (length l.source.items ≤ 16_777_216) × Consumes (g.R.Read.remaining l.fn.reader) (g.R.Read.remaining l.reader) l.source.items
