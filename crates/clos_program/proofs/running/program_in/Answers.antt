use Rattle.std.proofs.Common.{map}
use Rattle.clos_ending.specs.clos_system.clos_session.Session.{standing_of}
use Rattle.clos_program.specs.Files.{known_texts}
use Rattle.clos_program.proofs.Followed as Followed
use Rattle.clos_program.proofs.Following.{comes}
use Rattle.clos_program.proofs.running.program_in.Goals as goal

pub returns-clause-runs : goal.returns-clause-runs
returns-clause-runs g c new =
    let host = g.N.Natives.host c.args.session.now.natives in
    let known = g.I.Read.remaining c.args.input.now in
    let start = standing_of (g.D.Dependents.told c.args.session.now.dependents) c.args.session.now in
    let end = standing_of (g.D.Dependents.told c.run_all-ran.new.session.dependents) c.run_all-ran.new.session in (
      λ alone. comes host c.args.settings.now.echo known start end g.W.Write.contents c.args.output.now c.run_all-ran.new.output
          c.tell_notices-told.new.output c.finish.new.output c.args.settings.now.notices c.run_all-ran.result c.tell_notices-told.result
          c.finish.result new (c.run_all-ran.ensures.finishes alone) (c.run_all-ran.ensures.fails alone) c.tell_notices-told.ensures.told
          c.tell_notices-told.ensures.passed c.finish.ensures.keeps c.finish.ensures.status,
      λ named. Followed.comes host c.args.settings.now.echo
          (known_texts (g.S.Sources.text c.args.rt.now) known (map (λ f. f.now) c.args.settings.now.files.items)) start end
          g.W.Write.contents c.args.output.now c.run_all-ran.new.output c.tell_notices-told.new.output c.finish.new.output
          c.args.settings.now.notices c.run_all-ran.result c.tell_notices-told.result c.finish.result new
          (c.run_all-ran.ensures.files named) (c.run_all-ran.ensures.stops named) c.tell_notices-told.ensures.told
          c.tell_notices-told.ensures.passed c.finish.ensures.keeps c.finish.ensures.status,
    )
