use Rattle.std.proofs.Common.{◌≤◌, arith, drop, length, ap, sym, subst, ◌∙◌}
use Rattle.clos_definition.specs.clos_watch.Watching.{heard_after, times_told}
use Rattle.clos_meaning.specs.clos_world.Hearing.{hearing_of}
use Rattle.clos_definition.proofs.clos_world.Heard.{notices_kept, watching_kept}
use Rattle.clos_effects.proofs.telling.tell.Goals as goal

pub since-notices-requires : goal.since-notices-requires
since-notices-requires g c =
    let n = ap length (notices_kept c.args.world.now.hearing) in
    let m = ap length c.as_slice.ensures in omega (arith, n, m, c.requires.within)

pub tell_all-requires : goal.tell_all-requires
tell_all-requires g c = λ p l.
    let h = c.args.world.now.hearing in
    let those = ap (drop c.args.from) (notices_kept h ∙ sym c.as_slice.ensures) ∙ sym c.since-notices.ensures in
    subst (λ x. times_told x c.since-notices.result.now p ≤ g.D.Dependents.room c.args.dependents.now p) (watching_kept h)
    (subst (λ xs. times_told (hearing_of h).watching xs p ≤ g.D.Dependents.room c.args.dependents.now p) those (c.requires.ready p l))

pub returns-clause-told : goal.returns-clause-told
returns-clause-told g c =
    let h = c.args.world.now.hearing in
    let told = g.D.Dependents.told c.args.dependents.now in
    let those = ap (drop c.args.from) (notices_kept h ∙ sym c.as_slice.ensures) ∙ sym c.since-notices.ensures in
    c.tell_all.ensures.told ∙ ap (λ x. heard_after x c.since-notices.result.now told) (sym (watching_kept h))
    ∙ ap (λ xs. heard_after (hearing_of h).watching xs told) (sym those)
