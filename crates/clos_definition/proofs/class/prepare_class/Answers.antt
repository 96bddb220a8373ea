use Rattle.std.proofs.Common.{refl, ◌∙◌}
use Rattle.std.proofs.lemmas.Result.{err_from_is_err_and}
use Rattle.clos_world.specs.World.{seen}
use Rattle.clos_definition.specs.Class.{class_refusal}
use Rattle.clos_definition.specs.Refusal.{StopsFor}
use Rattle.clos_definition.proofs.Classes.{concerned_made, effect_made, none_stops, others_stop, reserve_stops}
use Rattle.clos_definition.proofs.WellMade.{class_well_made}
use Rattle.clos_definition.proofs.class.prepare_class.Goals as goal

pub returns-in_err-effect-clause-allows : goal.returns-in_err-effect-clause-allows
returns-in_err-effect-clause-allows c =
    let h : StopsFor (class_refusal c.args.definition.now c.args.cells (seen c.args.world.now)) c.in_err-effect.field-0.0 =
    others_stop c.args.definition.now c.args.cells (seen c.args.world.now) c.in_ok-class.ensures.allows (seen c.reserve_class.new.world) c.args.cells c.in_err-effect.field-0.0
    c.in_ok-class.ensures.same refl c.in_err-effect.ensures.allows in
    let p = err_from_is_err_and c.from_residual-in_err-effect.result c.from_residual-in_err-effect.ensures.1 in rw (p.1, p.2) h

pub returns-in_err-reserve_effect-clause-allows : goal.returns-in_err-reserve_effect-clause-allows
returns-in_err-reserve_effect-clause-allows c =
    let h : StopsFor (class_refusal c.args.definition.now c.args.cells (seen c.args.world.now)) c.in_err-reserve_effect.field-0.0 =
    reserve_stops c.args.definition.now c.args.cells (seen c.reserve_class.new.world) c.in_ok-effect.effect.changes
    (class_refusal c.args.definition.now c.args.cells (seen c.args.world.now)) c.in_err-reserve_effect.field-0.0 c.in_ok-effect.ensures.allows c.in_ok-effect.ensures.changes
    c.in_err-reserve_effect.ensures.allows in
    let p = err_from_is_err_and c.from_residual-in_err-reserve_effect.result c.from_residual-in_err-reserve_effect.ensures.1 in rw (p.1, p.2) h

pub returns-clause-allows : goal.returns-clause-allows
returns-clause-allows c =
    none_stops c.args.definition.now c.args.cells (seen c.args.world.now) c.in_ok-class.ensures.allows (seen c.reserve_class.new.world) c.args.cells
    c.in_ok-class.ensures.same refl c.in_ok-effect.ensures.allows

pub returns-clause-effect : goal.returns-clause-effect
returns-clause-effect c =
    effect_made c.args.definition.now (seen c.args.world.now) (seen c.reserve_class.new.world) c.in_ok-effect.effect c.in_ok-class.ensures.same c.in_ok-effect.ensures.changes
    c.in_ok-effect.ensures.methods

pub returns-clause-concerned : goal.returns-clause-concerned
returns-clause-concerned c =
    concerned_made c.args.definition.now (seen c.args.world.now) (seen c.reserve_class.new.world) c.in_ok-effect.effect c.in_ok-class.ensures.same c.in_ok-effect.ensures.changes
    c.in_ok-effect.ensures.methods

pub returns-in_err-reserve_effect-clause-same : goal.returns-in_err-reserve_effect-clause-same
returns-in_err-reserve_effect-clause-same c = c.in_err-reserve_effect.ensures.same ∙ c.in_ok-class.ensures.same

pub returns-clause-same : goal.returns-clause-same
returns-clause-same c = c.in_ok-reserve_effect.ensures.same ∙ c.in_ok-class.ensures.same

pub reserve_effect-requires : goal.reserve_effect-requires
reserve_effect-requires c =
    class_well_made c.in_ok-effect.effect c.args.definition.now (seen c.reserve_class.new.world) c.in_ok-effect.ensures.changes
    c.in_ok-effect.ensures.methods
