use Rattle.std.proofs.Common.{rules, ◌≡◌, ◌∷◌, []}
use Rattle.clos_generic.specs.Table.{named}
use Rattle.clos_world.specs.World.{seen}
use Rattle.clos_definition.specs.Effect.{changes_of}
use Rattle.clos_definition.specs.Generic.{definition_of, earlier_methods, initial_methods}
use Rattle.clos_definition.proofs.WellMade.{generic_well_made}
use Rattle.clos_definition.proofs.generic.prepare_generic.Goals as goal

pub reserve-requires : goal.reserve-requires
reserve-requires c =
    let w = seen c.args.world.now in
    let d = c.args.definition in
    let vs = c.args.values.now in
    let e = c.in_ok-effect.effect in
    let methods : e.methods.items ≡ initial_methods d vs w = search rules in
    let changes : e.changes ≡ changes_of (earlier_methods w.generics (named w.generics d.name)) (definition_of d ∷ []) (initial_methods d vs w) =
    search rules in
    generic_well_made e d vs w c.requires changes methods
