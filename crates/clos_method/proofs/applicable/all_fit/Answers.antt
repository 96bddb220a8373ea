use Rattle.std.proofs.Common.{◌∙◌, add-one, sym}
use Rattle.clos_method.proofs.OnFits.{one_does, one_does_not}
use Rattle.clos_method.proofs.applicable.all_fit.Goals as goal

pub returns-then-not-fits_at : goal.returns-then-not-fits_at
returns-then-not-fits_at c =
    sym (one_does_not c.args.arguments.now c.args.specializers.now c.loop-place.place c.index-specializers-place.result c.loop-place-test.true
    c.index-specializers-place.is (sym c.fits_at.ensures ∙ c.if-not-fits_at.true)) ∙ c.loop-place.invariant

pub loop-place-preserved : goal.loop-place-preserved
loop-place-preserved c =
    rw add-one
    (one_does c.args.arguments.now c.args.specializers.now c.loop-place.place c.index-specializers-place.result c.loop-place-test.true
    c.index-specializers-place.is (sym c.fits_at.ensures ∙ c.if-not-fits_at.false)
    ∙ c.loop-place.invariant)
