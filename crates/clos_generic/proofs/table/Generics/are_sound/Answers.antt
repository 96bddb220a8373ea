use Rattle.std.proofs.Common.{subst}
use Rattle.clos_generic.specs.Held.{Held}
use Rattle.clos_generic.specs.Sound.{IsSound}
use Rattle.clos_generic.proofs.table.Generics.are_sound.Goals as goal

pub returns : goal.returns
returns c = subst (λ (h : Held). IsSound h.table) c.self.view_is c.self.invariant.7
