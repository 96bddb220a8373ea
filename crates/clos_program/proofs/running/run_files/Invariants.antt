use Rattle.std.proofs.Common.{drop, map}
use Rattle.clos_ending.specs.clos_system.clos_session.Session.{standing_of}
use Rattle.clos_program.specs.inner.Files.{SoFar}
use Rattle.clos_program.proofs.running.run_files.Given as goal

abbrev pub invariant-loop-name : goal.invariant-loop-name
invariant-loop-name g l =
    SoFar (g.N.Natives.host l.fn.session.natives) (g.N.Natives.host l.session.natives) l.settings.echo (g.S.Sources.text l.rt)
    (g.I.Read.remaining l.fn.input) (g.I.Read.remaining l.input) (map (λ f. f.now) l.settings.files.items)
    (map (λ f. f.now) (drop l.name-index l.settings.files.items))
    (standing_of (g.D.Dependents.told l.fn.session.dependents) l.fn.session)
    (standing_of (g.D.Dependents.told l.session.dependents) l.session) (g.O.Write.contents l.fn.output) (g.O.Write.contents l.output) l.any
