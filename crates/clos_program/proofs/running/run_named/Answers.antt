use Rattle.std.proofs.Common.{◌≡◌, rules, true}
use Rattle.clos_ending.specs.clos_system.clos_session.Session.{standing_of}
use Rattle.clos_program.specs.Program.{is_input}
use Rattle.clos_program.proofs.Files.{input_failed}
use Rattle.clos_program.proofs.running.run_named.Goals as goal

pub returns-then-is_input-clause-fails : goal.returns-then-is_input-clause-fails
returns-then-is_input-clause-fails g c =
    let is : is_input c.args.name.now ≡ true = search rules in
    input_failed _ (g.N.Natives.host c.args.session.now.natives) c.args.echo (g.S.Sources.text c.args.rt.now)
    (g.I.Read.remaining c.args.input.now) c.args.name.now
    (standing_of (g.D.Dependents.told c.args.session.now.dependents) c.args.session.now)
    (standing_of (g.D.Dependents.told c.run_text.new.session.dependents) c.run_text.new.session)
    (g.O.Write.contents c.args.output.now) (g.O.Write.contents c.run_text.new.output) c.run_text.result is c.run_text.ensures.fails
