use Rattle.std.proofs.Common.{ap, ◌∙◌}
use Rattle.std.proofs.Math.Logic.{∥∥₁_map}
use Rattle.clos_world.specs.Hearing.{hearing_of}
use Rattle.clos_world.specs.World.{seen}
use Rattle.clos_world.proofs.Heard.{notices_told}
use Rattle.clos_definition.specs.Effect.{changed, of_changes}
use Rattle.clos_definition.proofs.effect.make.Goals as goal

pub returns-clause-seen : goal.returns-clause-seen
returns-clause-seen c =
    let w = seen c.args.world.now in
    let rs = c.args.effect.changes.removals in
    let ds = c.args.effect.changes.definitions in
    let ms = c.args.effect.methods.items in
    let new = c.make_in.new in
    ap (λ t. record w { generics = t; hearing = hearing_of (record c.args.world.now.hearing { notices = new.notices }) }) c.make_in.ensures.table
    ∙ ap (λ h. record w { generics = changed rs ds ms w.generics; hearing = h })
    (notices_told c.args.world.now.hearing new.notices (of_changes rs ds ms w.generics) c.make_in.ensures.told)

pub invariant_of-world : goal.invariant_of-world
invariant_of-world c =
    record { kept = ∥∥₁_map c.args.world.now.kept (c.make_in.ensures.kept c.args.world.now.objects.classes c.args.world.now.combinations) }
