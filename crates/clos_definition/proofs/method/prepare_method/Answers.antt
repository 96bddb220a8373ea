use Rattle.std.proofs.Common.{◌≡◌, None, Some, ap, sym, subst, ◌∙◌}
use Rattle.std.proofs.lemmas.Result.{err_from_is_err_and}
use Rattle.clos_generic.specs.Changes.{Changes}
use Rattle.clos_world.specs.World.{seen}
use Rattle.clos_definition.specs.Method.{method_changes, method_refusal, specializers_refusal}
use Rattle.clos_definition.specs.Refusal.{StopsFor, table_refusal, taken_refusal}
use Rattle.clos_definition.proofs.Classes.{third_stops}
use Rattle.clos_definition.proofs.WellMade.{method_well_made}
use Rattle.clos_definition.proofs.method.prepare_method.Goals as goal

pub returns-in_err-reserve-clause-allows : goal.returns-in_err-reserve-clause-allows
returns-in_err-reserve-clause-allows c =
    let w = seen c.args.world.now in
    let name = c.args.name.now in
    let m = c.args.definition in
    let stop = c.in_err-reserve.field-0.0 in
    let passed : specializers_refusal m.specializers w ≡ None =
    ap (λ l. specializers_refusal l w) (sym c.as_slice.ensures) ∙ c.in_ok-refuse_specializers.ensures in
    let h : StopsFor (method_refusal name m (Some c.args.values.now) w) stop =
    third_stops (taken_refusal name w) (specializers_refusal m.specializers w) (table_refusal name (method_changes name m (Some c.args.values.now) w) w) stop
    c.in_ok-refuse_taken.ensures passed
    (subst (λ (x : Changes). StopsFor (table_refusal name x w) stop) c.in_ok-effect.ensures.changes c.in_err-reserve.ensures.allows) in
    let p = err_from_is_err_and c.from_residual-in_err-reserve.result c.from_residual-in_err-reserve.ensures.1 in rw (p.1, p.2) h

pub reserve-requires : goal.reserve-requires
reserve-requires c =
    method_well_made c.in_ok-effect.effect c.args.name.now c.args.definition c.args.values.now (seen c.args.world.now) c.requires
    c.in_ok-effect.ensures.changes c.in_ok-effect.ensures.methods
