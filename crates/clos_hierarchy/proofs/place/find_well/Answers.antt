use Rattle.std.proofs.Common.{ap, ◌∙◌}
use Rattle.clos_precedence.specs.PrecedenceView.{numbers}
use Rattle.clos_hierarchy.specs.inner.Exchange.{put_all}
use Rattle.clos_hierarchy.proofs.Restarted.{put_back}
use Rattle.clos_hierarchy.proofs.place.find_well.Goals as goal

pub returns-in-Err-clause-err : goal.returns-in-Err-clause-err
returns-in-Err-clause-err c =
    c.exchange.ensures.kept ∙ ap (λ new. put_all (numbers c.args.places.now) new c.find_anew.new.kept.items) c.in_ok-olds.ensures.taken
    ∙ put_back (numbers c.args.places.now) c.args.kept.now.items c.find_anew.new.kept.items c.in_ok-olds.ensures.others.0 c.requires.within c.in_ok-olds.ensures.others.1
