use Rattle.std.proofs.Common.{ap, ◌∙◌}
use Rattle.clos_watch.specs.Watching.{nobody}
use Rattle.clos_world.specs.Hearing.{Hearing, hearing_of}
use Rattle.clos_world.proofs.hearing.Hearing.new.Goals as goal

pub returns : goal.returns
unfolding hearing_of
returns c =
    let names = c.args.names.items in
    let hears : Hearing = record { names = names; watching = nobody; notices = c.new-2.result.items } in
    ap (λ w. record hears { watching = w }) c.new.ensures ∙ ap (λ l. record hears { notices = l }) c.new-2.ensures.0
