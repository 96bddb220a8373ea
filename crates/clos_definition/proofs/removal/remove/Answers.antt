use Rattle.std.proofs.Common.{ap, ◌∙◌}
use Rattle.std.proofs.Math.Logic.{∥∥₁_map}
use Rattle.clos_generic.specs.Table.{without_method}
use Rattle.clos_world.specs.Hearing.{hearing_of}
use Rattle.clos_world.specs.World.{seen}
use Rattle.clos_world.proofs.Heard.{notices_told}
use Rattle.clos_definition.specs.Removal.{removal_notices}
use Rattle.clos_definition.proofs.removal.remove.Goals as goal

pub returns-clause-seen : goal.returns-clause-seen
returns-clause-seen c =
    let w = seen c.args.world.now in
    let g = c.args.function.0 in
    let m = c.args.method.0 in
    let new = c.remove_in.new in
    ap (λ t. record w { generics = t; hearing = hearing_of (record c.args.world.now.hearing { notices = new.notices }) }) c.remove_in.ensures.table
    ∙ ap (λ h. record w { generics = without_method g m w.generics; hearing = h })
    (notices_told c.args.world.now.hearing new.notices (removal_notices g m w.generics) c.remove_in.ensures.told)

pub invariant_of-world : goal.invariant_of-world
invariant_of-world c =
    record { kept = ∥∥₁_map c.args.world.now.kept (c.remove_in.ensures.kept c.args.world.now.objects.classes c.args.world.now.combinations) }
