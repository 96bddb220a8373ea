use Rattle.clos_machine.specs.Machine.{slots_left, subject_of}
use Rattle.std.proofs.Common.{ap, sym, subst, ◌∙◌, Some}
use Rattle.clos_machine.specs.clos_world.World.{seen}
use Rattle.clos_filling.specs.Fillers.{Finds, filler_found}
use Rattle.clos_filling.proofs.Passing.{found_at, passed_over}
use Rattle.clos_filling.proofs.filling.next_filler.Goals as goal

pub returns-in-Some : goal.returns-in-Some
returns-in-Some c =
    subst (λ l. Finds (seen c.args.world.now) (subject_of c.args.filling.now) l (slots_left c.args.filling.now) (Some (c.loop-place.place, c.in-Some.found))) c.slots-slots.ensures
    (found_at (seen c.args.world.now) (subject_of c.args.filling.now) c.slots-slots.result.now c.loop-place.place (slots_left c.args.filling.now) c.index-slots-place.result c.in-Some.found
    c.loop-place-test.true c.index-slots-place.is (ap filler_found (sym c.in-Some.is) ∙ c.in_ok-found.ensures) c.loop-place.invariant)

pub loop-place-preserved : goal.loop-place-preserved
loop-place-preserved c =
    passed_over (seen c.args.world.now) (subject_of c.args.filling.now) c.slots-slots.result.now c.loop-place.place c.index-slots-place.result
    c.loop-place-test.true c.index-slots-place.is (ap filler_found (sym c.in_default.is) ∙ c.in_ok-found.ensures) ∙ c.loop-place.invariant
