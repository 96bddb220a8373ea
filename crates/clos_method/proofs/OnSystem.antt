-- The system's functions and their methods.
use Rattle.std.proofs.Common.{refl}
use Rattle.clos_method.specs.Laws.{SystemIsCongruent}
use Rattle.clos_method.specs.declared.system.SystemFunction.TheVariants.{InitializeInstance, ReinitializeInstance, SharedInitialize, UpdateInstanceForRedefinedClass, UpdateInstanceForDifferentClass, SlotUnbound, SlotMissing, NoApplicableMethod, NoNextMethod}

pub system_is_congruent : SystemIsCongruent
system_is_congruent InitializeInstance = (refl, refl)
system_is_congruent ReinitializeInstance = (refl, refl)
system_is_congruent SharedInitialize = (refl, refl)
system_is_congruent UpdateInstanceForRedefinedClass = (refl, refl)
system_is_congruent UpdateInstanceForDifferentClass = (refl, refl)
system_is_congruent SlotUnbound = (refl, refl)
system_is_congruent SlotMissing = (refl, refl)
system_is_congruent NoApplicableMethod = (refl, refl)
system_is_congruent NoNextMethod = (refl, refl)
