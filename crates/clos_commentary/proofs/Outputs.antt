-- What an output holds.
use Rattle.std.specs.Prelude.{ℕ, List, Option}
use Rattle.std.specs.Io.KnownBytes.{Keeps}
use Rattle.std.proofs.KnownBytes.{Keeps-refl}

-- nothing was written
pub nothing_written : (a : Option (List ℕ)) → Keeps a a
nothing_written a = Keeps-refl a
