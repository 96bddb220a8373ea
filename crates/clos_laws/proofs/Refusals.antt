-- Where neither of two refusals is told.
use Rattle.std.proofs.Common.{◌≡◌, Option, Some, None, refl}
use Rattle.clos_session.specs.clos_world.declared.condition.Condition.{Condition}
use Rattle.clos_session.specs.clos_definition_forms.clos_definition.Refusal.{or_else}

pub first_none : (a b : Option Condition) → or_else a b ≡ None → a ≡ None
first_none None b h = refl
first_none (Some c) b h = cc

pub second_none : (a b : Option Condition) → or_else a b ≡ None → b ≡ None
second_none None b h = h
second_none (Some c) b h = cc
