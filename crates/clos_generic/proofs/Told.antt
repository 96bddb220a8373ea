-- Faults that tell refusals.
use Rattle.std.proofs.Common.{◌≡◌, Option, Some, None}
use Rattle.clos_generic.specs.Fault.{Refusal, or_else}
use Rattle.clos_generic.specs.FaultView.{Refuses, Tells}
use Rattle.clos_generic.specs.declared.fault.GenericFault.{GenericFault}
use Rattle.clos_generic.specs.declared.fault.GenericFault.TheVariants.{Incongruent, NoSuchMethod, Unsupported, TableLimit, Memory}

-- The first refusal is the one of both.
pub told_first : (e : GenericFault) (o p : Option Refusal) → Tells e o → Tells e (or_else o p)
told_first e (Some r) p h = h
told_first Incongruent None p h = absurd (cc h)
told_first NoSuchMethod None p h = absurd (cc h)
told_first Unsupported None p h = absurd (cc h)
told_first TableLimit None p h = absurd (cc h)
told_first Memory None p h = absurd h

pub told_refuses : (e : GenericFault) (o : Option Refusal) → Tells e o → Refuses e o
told_refuses Incongruent o h = h
told_refuses NoSuchMethod o h = h
told_refuses Unsupported o h = h
told_refuses TableLimit o h = h
told_refuses Memory o h = absurd h

-- A fault that tells a refusal is none where there is none.
pub told_none : (e : GenericFault) (o : Option Refusal) → Tells e o → o ≡ None → ⊥
told_none Incongruent o h k = cc (h, k)
told_none NoSuchMethod o h k = cc (h, k)
told_none Unsupported o h k = cc (h, k)
told_none TableLimit o h k = cc (h, k)
told_none Memory o h k = h
