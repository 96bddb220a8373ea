-- What a fault of the table of generic functions tells.
use Rattle.std.specs.Prelude.{◌≡◌, Option, Some, None}
use Rattle.clos_generic.specs.Fault.{Refusal, incongruent, no_such_method, unsupported, table_limit}
use Rattle.clos_generic.specs.declared.fault.GenericFault.{GenericFault}
use Rattle.clos_generic.specs.declared.fault.GenericFault.TheVariants.{Incongruent, NoSuchMethod, Unsupported, TableLimit, Memory}

-- the fault tells this refusal; memory is asked for only where nothing else is wrong
abbrev pub Refuses : GenericFault → Option Refusal → Type 0
Refuses Incongruent o = o ≡ Some incongruent
Refuses NoSuchMethod o = o ≡ Some no_such_method
Refuses Unsupported o = o ≡ Some unsupported
Refuses TableLimit o = o ≡ Some table_limit
Refuses Memory o = o ≡ None

-- the fault tells this refusal; no memory was asked for
abbrev pub Tells : GenericFault → Option Refusal → Type 0
Tells Incongruent o = o ≡ Some incongruent
Tells NoSuchMethod o = o ≡ Some no_such_method
Tells Unsupported o = o ≡ Some unsupported
Tells TableLimit o = o ≡ Some table_limit
Tells Memory o = ⊥
