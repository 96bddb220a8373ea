use Rattle.std.proofs.Common.{◌≡◌, fold, map, take}
use Rattle.clos_method.specs.Specializer.{specializer_of}
use Rattle.clos_groups.specs.Key.{key_writes}
use Rattle.clos_groups.proofs.key.KeyHash.hash.Given as goal

abbrev pub invariant-loop-specializer : goal.invariant-loop-specializer
invariant-loop-specializer g l =
    l.state ≡ fold g.H.Hasher.write l.initial.state (key_writes (map specializer_of (take l.specializer-index l.specializers)))
