use Rattle.std.proofs.Common.{◌≡◌, ◌+◌, ◌-◌, subst, arith}
use Rattle.clos_cache.specs.ChangeView.{change_of}
use Rattle.clos_cache.proofs.Dropping.{Dropping, ends, takes}
use Rattle.clos_cache.proofs.change.drop_concerned.Goals as goal

pub loop-left-preserved-in-Some : goal.loop-left-preserved-in-Some
loop-left-preserved-in-Some g c =
    let test = c.loop-left-test.true in
    let next : (c.loop-left.left - 1) + 1 ≡ c.loop-left.left = omega (arith, test) in
    takes (change_of c.args.change.now) c.args.index.now.entries c.loop-left.index.entries c.args.entries.now
    c.loop-left.entries c.loop-left.left (c.loop-left.left - 1)
    c.loop-left.invariant next (c.is_concerned_at.ensures.found c.if-is_concerned_at.true) (c.in-Some.key, c.in-Some.place)
    c.swap_remove_index.new.self.entries c.try_remove.new.self c.in-Some.ensures.entry c.in-Some.ensures.entries
    c.in-Some.ensures.updates.0 c.try_remove.ensures.updates
    c.in-Some.ensures.len c.try_remove.result c.try_remove.ensures.value c.try_remove.ensures.len

pub returns-clause-drops : goal.returns-clause-drops
returns-clause-drops g c =
    let test = c.loop-left-test.false in
    let none : c.loop-left.left ≡ 0 = omega (arith, test) in
    ends (change_of c.args.change.now) c.args.index.now.entries c.loop-left.index.entries c.args.entries.now c.loop-left.entries
    (subst (Dropping (change_of c.args.change.now) c.args.index.now.entries c.args.entries.now c.loop-left.index.entries
    c.loop-left.entries) none c.loop-left.invariant)
