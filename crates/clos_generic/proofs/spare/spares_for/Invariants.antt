use Rattle.std.proofs.Common.{◌≡◌, ℕ, take, map}
use Rattle.std.specs.Prelude.{slice_get}
use Rattle.clos_generic.specs.inner.Reserved.{HasSpare, keys_of}
use Rattle.clos_generic.proofs.spare.spares_for.Given as goal

abbrev pub invariant-loop-definition : goal.invariant-loop-definition
invariant-loop-definition l = record {
  keys : keys_of l.spares.items ≡ map (λ d. d.name) (take l.definition-index l.definitions);
  rooms : (k : ℕ) → HasSpare l.methods (slice_get l.spares.items k);
}
