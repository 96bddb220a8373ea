-- What a fault of the store tells.
use Rattle.std.specs.Prelude.{◌≡◌, Bool, true, false}
use Rattle.clos_store.specs.declared.fault.StoreFault.{StoreFault}
use Rattle.clos_store.specs.declared.fault.StoreFault.TheVariants.{TableLimit, Memory}

-- whether there was room: the limit is met only where there is none, and memory is asked for only where there is some
abbrev pub Refuses : StoreFault → Bool → Type 0
Refuses TableLimit room = room ≡ false
Refuses Memory room = room ≡ true
