use Rattle.std.proofs.Common.{map, ap, arith}
use Rattle.clos_ending.specs.clos_system.clos_session.Session.{standing_of}
use Rattle.clos_program.proofs.Files.{at_name, begins, goes_on, stops, unflushed}
use Rattle.clos_program.proofs.running.run_files.Goals as goal

pub loop-name-init : goal.loop-name-init
loop-name-init g c =
    begins (g.N.Natives.host c.args.session.now.natives) c.args.settings.now.echo (g.S.Sources.text c.args.rt.now)
    (g.I.Read.remaining c.args.input.now) (map (λ f. f.now) c.args.settings.now.files.items)
    (standing_of (g.D.Dependents.told c.args.session.now.dependents) c.args.session.now) (g.O.Write.contents c.args.output.now)

pub returns-in-Err-clause-fails : goal.returns-in-Err-clause-fails
returns-in-Err-clause-fails g c =
    let s = at_name c.args.settings.now.files.items c.deref-name-items.result.now c.loop-name.name-index _ c.deref-name-items.ensures.value
    (omega arith) c.loop-name.invariant in
    stops s c.in-Err.ensures.fails

pub loop-name-preserved : goal.loop-name-preserved
loop-name-preserved g c =
    let s = at_name c.args.settings.now.files.items c.deref-name-items.result.now c.loop-name.name-index _ c.deref-name-items.ensures.value
    (omega arith) c.loop-name.invariant in
    goes_on s c.in-Ok.ensures.host c.in-Ok.ensures.finishes (λ e. ap g.I.Read.remaining (c.in-Ok.ensures.input e)) c.flush.ensures.bytes

pub returns-then-is_err-clause-fails : goal.returns-then-is_err-clause-fails
returns-then-is_err-clause-fails g c =
    let s = at_name c.args.settings.now.files.items c.deref-name-items.result.now c.loop-name.name-index _ c.deref-name-items.ensures.value
    (omega arith) c.loop-name.invariant in
    unflushed (goes_on s c.in-Ok.ensures.host c.in-Ok.ensures.finishes (λ e. ap g.I.Read.remaining (c.in-Ok.ensures.input e))
    c.flush.ensures.bytes)
