-- States that have the same definitions keep the same forms.
use Rattle.std.proofs.Common.{subst, sym}
use Rattle.clos_generic.specs.Sound.{Each}
use Rattle.clos_meaning.specs.clos_world.Definitions.{Same}
use Rattle.clos_meaning.specs.clos_world.World.{State}
use Rattle.clos_method.specs.declared.method.Method.{Method}
use Rattle.clos_form_laws.specs.Kept.{AreWellFormed, OfClass, OfFunction, OfMethodBody}

abbrev pub HasBody : Method → Type 0
HasBody m = OfMethodBody m.body

pub same_well : (w u : State) → Same w u → AreWellFormed w → AreWellFormed u
same_well w u h s = (
  subst (Each (λ p. OfFunction p.1)) (sym h.3) s.0,
  subst (Each (λ p. OfFunction p.1)) (sym h.4) s.1,
  subst (λ t. Each HasBody t.methods) (sym h.1) s.2,
  subst (λ t. Each OfClass t.slots) (sym h.0) s.3,
)
