use Rattle.std.proofs.Common.{◌≡◌, refl, sym, subst}
use Rattle.clos_eval.specs.clos_machine.clos_world.World.{seen}
use Rattle.clos_eval.specs.clos_machine.clos_world.Hearing.{hearing_of}
use Rattle.clos_definition_forms.specs.Dependents.{with_change}
use Rattle.clos_definition_forms.specs.declared.dependents.Change.{Change}
use Rattle.clos_definition_forms.specs.declared.dependents.Change.TheVariants.{Add, Remove}
use Rattle.clos_definition_forms.proofs.Watched.{change_made, nothing_changed, on_err, on_ok}
use Rattle.clos_definition_forms.proofs.dependents.change_watchers.Goals as goal

pub returns-in-Add-clause-ok : goal.returns-in-Add-clause-ok
returns-in-Add-clause-ok c =
    let w = seen c.args.world.now in
    let h = c.args.world.now.hearing in
    on_ok c.add.result
    (λ e. subst (λ (x : Change). record w { hearing = hearing_of (record h { watchers = c.add.new.self }) } ≡ with_change x c.args.metaobject c.args.place w)
    (sym c.in-Add.is) (change_made w h c.add.new.self refl Add c.args.metaobject c.args.place e)) c.add.ensures.ok

pub returns-in-Add-clause-err : goal.returns-in-Add-clause-err
returns-in-Add-clause-err c =
    on_err c.add.result (λ e. nothing_changed (seen c.args.world.now) c.args.world.now.hearing c.add.new.self refl e) c.add.ensures.err

pub returns-in-Remove-clause-ok : goal.returns-in-Remove-clause-ok
returns-in-Remove-clause-ok c =
    let w = seen c.args.world.now in
    let h = c.args.world.now.hearing in
    subst (λ (x : Change). record w { hearing = hearing_of (record h { watchers = c.remove.new.self }) } ≡ with_change x c.args.metaobject c.args.place w)
    (sym c.in-Remove.is) (change_made w h c.remove.new.self refl Remove c.args.metaobject c.args.place c.remove.ensures)
