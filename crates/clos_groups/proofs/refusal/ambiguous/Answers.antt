use Rattle.std.proofs.Common.{rules, ◌≡◌, ◌∙◌, Some, None}
use Rattle.clos_method.specs.MethodIds.{method_numbers}
use Rattle.clos_groups.specs.RefusalView.{pair_of}
use Rattle.clos_groups.proofs.Ambiguity.{found, pair_at, passed}
use Rattle.clos_groups.proofs.refusal.ambiguous.Goals as goal

-- src/refusal.rt:105:13
pub returns-in-Some : goal.returns-in-Some
returns-in-Some c =
    let is : Some (pair_of c.in-Some.pair) ≡ pair_at c.args.methods.now c.args.groups.now (method_numbers c.args.ids.now) c.loop-place.place = search rules
    in found c.args.methods.now c.args.groups.now (method_numbers c.args.ids.now) c.loop-place.place (pair_of c.in-Some.pair) c.loop-place-test.true is ∙ c.loop-place.invariant

-- src/refusal.rt:101:5
pub loop-place-preserved : goal.loop-place-preserved
loop-place-preserved c =
    let is : None ≡ pair_at c.args.methods.now c.args.groups.now (method_numbers c.args.ids.now) c.loop-place.place = search rules
    in passed c.args.methods.now c.args.groups.now (method_numbers c.args.ids.now) c.loop-place.place c.loop-place-test.true is ∙ c.loop-place.invariant
