use Rattle.std.proofs.Common.{ap, length, subst, sym, ◌∙◌}
use Rattle.clos_precedence.specs.PrecedenceView.{numbers}
use Rattle.clos_hierarchy.specs.inner.Exchange.{put_all, replaced}
use Rattle.clos_hierarchy.specs.inner.KeptView.{kept_at}
use Rattle.clos_hierarchy.specs.inner.Touched.{AreWithin, OthersStay}
use Rattle.clos_hierarchy.proofs.Restarted.{as_many, as_many_taken, out_others, put_back, taken_is, within_new, within_out}
use Rattle.clos_hierarchy.proofs.anew.find_anew.Goals as goal

pub exchange-requires-clause-each : goal.exchange-requires-clause-each
exchange-requires-clause-each c = ap length c.in_ok-taken.ensures ∙ as_many c.args.places.now

pub fill-requires : goal.fill-requires
fill-requires c =
    subst (AreWithin (numbers c.args.places.now)) (sym (c.exchange.ensures.kept ∙ ap (λ new. put_all (numbers c.args.places.now) new c.args.kept.now.items) c.in_ok-taken.ensures))
    (within_out (numbers c.args.places.now) c.args.kept.now.items c.requires.within)

pub exchange-requires-in-Err-clause-within : goal.exchange-requires-in-Err-clause-within
exchange-requires-in-Err-clause-within c =
    within_new (numbers c.args.places.now) c.args.kept.now.items c.fill.new.kept.items c.requires.within
    (out_others (numbers c.args.places.now) c.args.kept.now.items c.fill.new.kept.items (subst (λ ks. OthersStay (numbers c.args.places.now) ks c.fill.new.kept.items) (c.exchange.ensures.kept ∙ ap (λ new. put_all (numbers c.args.places.now) new c.args.kept.now.items) c.in_ok-taken.ensures) c.fill.ensures.others))

pub exchange-requires-in-Err-clause-each : goal.exchange-requires-in-Err-clause-each
exchange-requires-in-Err-clause-each c = ap length (c.exchange.ensures.others ∙ ap (λ new. replaced (numbers c.args.places.now) new c.args.kept.now.items) c.in_ok-taken.ensures ∙ taken_is c.args.places.now c.args.kept.now.items c.requires.ordered) ∙ as_many_taken c.args.places.now (kept_at c.args.kept.now.items)

pub returns-in-Ok-clause-taken : goal.returns-in-Ok-clause-taken
returns-in-Ok-clause-taken c =
    c.exchange.ensures.others ∙ ap (λ new. replaced (numbers c.args.places.now) new c.args.kept.now.items) c.in_ok-taken.ensures
    ∙ taken_is c.args.places.now c.args.kept.now.items c.requires.ordered

pub returns-in-Ok-clause-others : goal.returns-in-Ok-clause-others
returns-in-Ok-clause-others c =
    (out_others (numbers c.args.places.now) c.args.kept.now.items c.fill.new.kept.items (subst (λ ks. OthersStay (numbers c.args.places.now) ks c.fill.new.kept.items) (c.exchange.ensures.kept ∙ ap (λ new. put_all (numbers c.args.places.now) new c.args.kept.now.items) c.in_ok-taken.ensures) c.fill.ensures.others))

pub returns-in-Err-clause-err : goal.returns-in-Err-clause-err
returns-in-Err-clause-err c =
    let o : OthersStay (numbers c.args.places.now) c.args.kept.now.items c.fill.new.kept.items =
    (out_others (numbers c.args.places.now) c.args.kept.now.items c.fill.new.kept.items (subst (λ ks. OthersStay (numbers c.args.places.now) ks c.fill.new.kept.items) (c.exchange.ensures.kept ∙ ap (λ new. put_all (numbers c.args.places.now) new c.args.kept.now.items) c.in_ok-taken.ensures) c.fill.ensures.others)) in
    c.exchange-in-Err.ensures.kept ∙ ap (λ new. put_all (numbers c.args.places.now) new c.fill.new.kept.items) (c.exchange.ensures.others ∙ ap (λ new. replaced (numbers c.args.places.now) new c.args.kept.now.items) c.in_ok-taken.ensures ∙ taken_is c.args.places.now c.args.kept.now.items c.requires.ordered)
    ∙ put_back (numbers c.args.places.now) c.args.kept.now.items c.fill.new.kept.items o.0 c.requires.within o.1
