use Rattle.std.proofs.Common.{map, drop, ap, sym, ◌∙◌}
use Rattle.lisp_data.specs.ValueView.{value_of}
use Rattle.clos_objects.specs.Objects.{ungiven}
use Rattle.clos_objects.proofs.Making.{ungiven_goes, ungiven_stays}
use Rattle.clos_objects.proofs.creation.next_ungiven.Goals as goal

pub returns-then-not-is_given-clause-value : goal.returns-then-not-is_given-clause-value
returns-then-not-is_given-clause-value c =
    ap (λ ds. ungiven (map value_of c.args.initargs.now) (drop c.args.from ds)) (sym c.defaults-defaults.ensures) ∙ sym c.loop-place.invariant
    ∙ ungiven_stays (map value_of c.args.initargs.now) c.defaults-defaults.result.now c.loop-place.place c.index-defaults-place.result c.loop-place-test.true c.index-defaults-place.is c.if-not-is_given.ensures
    ∙ ap (drop c.loop-place.place) c.defaults-defaults.ensures

pub loop-place-preserved : goal.loop-place-preserved
loop-place-preserved c =
    ungiven_goes (map value_of c.args.initargs.now) c.defaults-defaults.result.now c.loop-place.place c.index-defaults-place.result c.loop-place-test.true c.index-defaults-place.is c.if-not-is_given.ensures
    ∙ c.loop-place.invariant
