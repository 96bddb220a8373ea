use Rattle.std.proofs.Common.{[], ap, ◌∙◌}
use Rattle.clos_perform.specs.clos_world.Uses.{uses_in}
use Rattle.clos_session.proofs.session.Session.new.Goals as goal

pub returns-clause-uses : goal.returns-clause-uses
returns-clause-uses g c =
    let world = c.in_ok-world.world in
    ap (λ l. uses_in l world.meter) c.in_ok-world.ensures.cache ∙ ap (uses_in []) c.in_ok-world.ensures.meter
