use Rattle.std.proofs.Common.{◌++◌, [], ◌∷◌, w64, rules, ap, ◌∙◌}
use Rattle.std.proofs.lemmas.Int.{to_z-of_z}
use Rattle.clos_watch.proofs.Each.{each_now}
use Rattle.clos_watch.proofs.callback.CallbackDependent.tell.Goals as goal

pub invariant_of-self : goal.invariant_of-self
invariant_of-self g c = record {
  each = each_now (g.L.Listener.lo c.args.self.now.listener) (g.L.Listener.hi c.args.self.now.listener) c.args.self.now.answers.items c.push-2.new.self.items c.args.self.now.heard.items c.push.new.self.items c.answer-answer.result c.args.notice.now
      (c.push-2.ensures.items ∙ ap (λ v. c.args.self.now.answers.items ++ v ∷ []) (to_z-of_z w64 c.answer-answer.result (search rules))) c.push.ensures.items
      c.args.self.now.each c.answer-answer.ensures;
}
