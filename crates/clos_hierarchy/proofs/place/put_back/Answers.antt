use Rattle.std.proofs.Common.{ap, take, ◌∙◌}
use Rattle.clos_precedence.specs.PrecedenceView.{numbers}
use Rattle.clos_hierarchy.specs.inner.Exchange.{put_all, replaced}
use Rattle.clos_hierarchy.proofs.Placed.{put_back_is}
use Rattle.clos_hierarchy.proofs.Restarted.{replaced_is}
use Rattle.clos_hierarchy.proofs.place.put_back.Goals as goal

pub returns-clause-back : goal.returns-clause-back
returns-clause-back c = λ k ks r h.
    c.truncate.ensures.items ∙ ap (take c.args.len) c.exchange.ensures.kept ∙ ap (λ v. take c.args.len (put_all (numbers v) c.args.replaced.olds.items c.args.kept.now.items)) c.as_slice.ensures.value
    ∙ put_back_is (numbers c.args.replaced.places.items) k c.args.replaced.olds.items ks c.args.kept.now.items c.args.len r h

pub returns-clause-found : goal.returns-clause-found
returns-clause-found c =
    c.exchange.ensures.others ∙ ap (λ v. replaced (numbers v) c.args.replaced.olds.items c.args.kept.now.items) c.as_slice.ensures.value
    ∙ replaced_is c.args.replaced.places.items c.args.replaced.olds.items c.args.kept.now.items c.requires.ordered c.requires.each
