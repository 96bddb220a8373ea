-- The variables that the code's bindings stand for.
use Rattle.clos_forms.specs.Operator.{Bound, BoundSlot}
use Rattle.clos_forms.specs.declared.bound.Binding.{Binding}
use Rattle.clos_forms.specs.declared.bound.SlotBinding.{SlotBinding}

-- the same name and flag
abbrev pub bound : Binding → Bound
bound b = record { name = b.name; has_init = b.has_init }

-- the same variable, and the same name of a slot
abbrev pub bound_slot : SlotBinding → BoundSlot
bound_slot b = record { variable = b.variable; slot = b.slot }
