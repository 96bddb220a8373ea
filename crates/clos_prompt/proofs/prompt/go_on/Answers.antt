use Rattle.clos_prompt.specs.WaitingView.{waiting_of}
use Rattle.clos_prompt.proofs.Going.{nothing_left_told, open_left_told, unread_left_told}
use Rattle.clos_prompt.proofs.prompt.go_on.Goals as goal

pub returns-in-Nothing : goal.returns-in-Nothing
returns-in-Nothing g c =
    nothing_left_told (waiting_of c.args.prompt.now) (waiting_of c.cleared.result) c.args.text.now c.args.summary c.args.left
    (g.W.Write.contents c.args.output.now) c.in-Nothing.is c.cleared.ensures

pub returns-in-Ok : goal.returns-in-Ok
returns-in-Ok g c =
    open_left_told (waiting_of c.args.prompt.now) (waiting_of c.in-Ok.next) c.args.text.now c.args.summary c.args.left c.in-Open.begin
    (g.W.Write.contents c.args.output.now) c.in-Open.is c.in-Ok.ensures

pub returns-in-Ok-tell_unread : goal.returns-in-Ok-tell_unread
returns-in-Ok-tell_unread g c =
    unread_left_told (waiting_of c.args.prompt.now) (waiting_of c.given_up.result) c.args.text.now c.args.summary c.args.left
    c.in-Unread.fault c.in-Unread.at (g.W.Write.contents c.args.output.now) (g.W.Write.contents c.tell_unread.new.output)
    c.in-Unread.is c.given_up.ensures c.requires c.in-Ok-tell_unread.ensures
