use Rattle.std.proofs.Common.{◌≡◌, length}
use Rattle.clos_native.specs.Stored.{native_named}
use Rattle.clos_native.proofs.lookup.find.Given as goal

abbrev pub invariant-loop-first : goal.invariant-loop-first
invariant-loop-first g l = native_named l.left l.name ≡ native_named l.fn.natives l.name

abbrev pub decreases-loop-first : goal.decreases-loop-first
decreases-loop-first g l = length l.left
