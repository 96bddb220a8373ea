use Rattle.std.proofs.Common.{ap, ◌∙◌}
use Rattle.clos_world.specs.Globals.{is_global}
use Rattle.clos_world.proofs.Variables.{is_found, held}
use Rattle.clos_world.proofs.globals.Globals.has.Goals as goal

pub returns : goal.returns
returns c = c.is_some.ensures ∙ held c.get.result ∙ is_found c.self.inside.values.entries c.args.name.now _ c.get.ensures.value ∙ ap (λ gs. is_global gs c.args.name.now) c.self.view_is
