use Rattle.std.proofs.Common.{◌≡◌, None, rules, ap, sym, subst, ◌∙◌}
use Rattle.clos_generic.specs.Changes.{Changes}
use Rattle.clos_world.specs.World.{seen}
use Rattle.clos_definition.specs.Method.{method_changes, specializers_refusal}
use Rattle.clos_definition.specs.Refusal.{Allows, table_refusal, taken_refusal}
use Rattle.clos_definition.proofs.Classes.{third_allows}
use Rattle.clos_definition.proofs.method.check_method.Goals as goal

pub returns : goal.returns
returns c =
    let w = seen c.args.world.now in
    let name = c.args.name.now in
    let m = c.args.definition.now in
    let passed : specializers_refusal m.specializers w ≡ None =
    ap (λ l. specializers_refusal l w) (sym c.as_slice.ensures) ∙ c.in_ok-refuse_specializers.ensures in
    let changes : c.add.new.self ≡ method_changes name m None w = search rules in
    third_allows (taken_refusal name w) (specializers_refusal m.specializers w) (table_refusal name (method_changes name m None w) w) c.check.result
    c.in_ok-refuse_taken.ensures passed
    (subst (λ (x : Changes). Allows (table_refusal name x w) c.check.result) changes c.check.ensures)
