use Rattle.std.proofs.Common.{length, ap, ◌∙◌}
use Rattle.std.proofs.lemmas.Result.{err_from_is_err_and}
use Rattle.clos_world.specs.World.{seen}
use Rattle.clos_definition.specs.Class.{cells_needed, class_refusal}
use Rattle.clos_definition.specs.Refusal.{StopsFor}
use Rattle.clos_definition.proofs.Classes.{none_stops, others_stop}
use Rattle.clos_definition.proofs.class.check_class.Goals as goal

pub returns-in_err-accessors_for-clause-allows : goal.returns-in_err-accessors_for-clause-allows
returns-in_err-accessors_for-clause-allows c =
    let h : StopsFor (class_refusal c.args.definition.now (length (cells_needed c.args.definition.now (seen c.args.world.now))) (seen c.args.world.now)) c.in_err-accessors_for.field-0.0 =
    others_stop c.args.definition.now (length (cells_needed c.args.definition.now (seen c.args.world.now))) (seen c.args.world.now) c.in_ok-reserved.ensures.allows
    (seen c.reserve_class.new.world) c.len.result c.in_err-accessors_for.field-0.0 c.in_ok-reserved.ensures.same (c.len.ensures ∙ ap length c.in_ok-reserved.ensures.cells)
    c.in_err-accessors_for.ensures.allows in
    let p = err_from_is_err_and c.from_residual-in_err-accessors_for.result c.from_residual-in_err-accessors_for.ensures.1 in rw (p.1, p.2) h

pub returns-clause-allows : goal.returns-clause-allows
returns-clause-allows c =
    none_stops c.args.definition.now (length (cells_needed c.args.definition.now (seen c.args.world.now))) (seen c.args.world.now) c.in_ok-reserved.ensures.allows
    (seen c.reserve_class.new.world) c.len.result c.in_ok-reserved.ensures.same (c.len.ensures ∙ ap length c.in_ok-reserved.ensures.cells)
    c.in_ok-accessors_for.ensures.allows
