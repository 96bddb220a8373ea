use Rattle.std.proofs.Common.{rules, arith, subst, sym}
use Rattle.std.specs.Prelude.{slice_get}
use Rattle.std.proofs.lemmas.Grind.{common_steps}
use Rattle.clos_generic.specs.inner.Reserved.{HasSpare}
use Rattle.clos_generic.proofs.Rooms.{spare_pushed}
use Rattle.clos_generic.proofs.spare.spares_for.Goals as goal

pub loop-definition-preserved : goal.loop-definition-preserved
loop-definition-preserved c = record {
  keys = first_of (search rules, grind (arith, common_steps));
  rooms = λ k.
      subst (λ ss. HasSpare c.args.methods (slice_get ss k)) (sym c.in_ok-push_back.ensures.items)
      (spare_pushed c.args.methods c.loop-definition.spares.items c.in_ok-new.field-0 k c.in_ok-new.ensures.room c.loop-definition.invariant.rooms);
}
