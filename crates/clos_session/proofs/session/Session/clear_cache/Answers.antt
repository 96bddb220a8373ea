use Rattle.std.proofs.Common.{subst, sym}
use Rattle.std.proofs.Math.Logic.{∥∥₁_map}
use Rattle.std.proofs.lemmas.Option.{none-some}
use Rattle.clos_perform.specs.clos_world.Kept.{AreNow}
use Rattle.clos_session.proofs.session.Session.clear_cache.Goals as goal

pub invariant_of-world : goal.invariant_of-world
invariant_of-world g c =
    let w = c.args.self.now.world in
    record {
      kept = subst (λ es. ∥ AreNow w.objects.classes w.generics.table w.combinations es ∥₁) (sym c.clear.ensures)
          (∥∥₁_map w.kept (λ h. record { now = λ key k e. absurd (none-some k e); there = h.there }));
    }
