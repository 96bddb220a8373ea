use Rattle.std.proofs.Common.{◌≡◌, [], ◌∷◌, ◌++◌, true, refl, arith, ap, subst, sym, true≢false, length, ◌+◌, ◌∙◌}
use Rattle.std.specs.Prelude.{◌==◌, slice_get}
use Rattle.std.specs.HashMap.{get, spare}
use Rattle.lisp_data.specs.Name.{same_name}
use Rattle.clos_forms.specs.declared.operator.FunctionName.TheVariants.{Symbol, Setf}
use Rattle.clos_generic.specs.Fault.{takes_in}
use Rattle.clos_generic.specs.Sound.{AreSound}
use Rattle.clos_generic.specs.Table.{added, with_changed, with_methods}
use Rattle.clos_generic.specs.TableView.{AreThere, functions_in}
use Rattle.clos_generic.specs.inner.AccessorMethods.{HasPlaces, IsKept}
use Rattle.clos_generic.specs.inner.EqlObjects.{AreNoted}
use Rattle.clos_generic.proofs.EqlNoted.{noted_added, noted_same}
use Rattle.clos_generic.proofs.Kept.{first_place, kept_more, kept_same, places_after}
use Rattle.clos_generic.proofs.Named.{same_indexed, still_indexed}
use Rattle.clos_generic.proofs.Ready.{first_room, ready_added, ready_changed}
use Rattle.clos_generic.proofs.Soundness.{added_sound, sound_same}
use Rattle.clos_generic.proofs.There.{there_added, there_same}
use Rattle.clos_generic.proofs.table.Generics.put.Goals as goal

pub invariant_of-self : goal.invariant_of-self
invariant_of-self c =
    let w = c.self.inside in (
      c.self.invariant.0,
      c.self.invariant.1,
      c.self.invariant.2,
      kept_same w.accessors c.reserve.new.self w.methods.items w.methods.items c.self.invariant.3 c.reserve.ensures.same refl,
      (omega (arith, c.self.invariant.4.0, c.reserve.ensures.spare), omega (arith, c.self.invariant.4.1, c.reserve.ensures.len, c.reserve.ensures.capacity)),
      c.self.invariant.5,
      c.self.invariant.6,
      c.self.invariant.7,
    )

pub returns-in_err-reserve-clause-succeeds : goal.returns-in_err-reserve-clause-succeeds
returns-in_err-reserve-clause-succeeds c = λ h.
    let p = first_place c.self.inside.accessors c.self.inside.additions.items c.args.self.now.additions c.args.id.0 (ap (λ t. t.additions) c.self.view_is) h c.self.invariant.4 in
    absurd (true≢false (sym (c.in_err-reserve.ensures.succeeds p)))

pub invariant_of-self-in_err-reserve-2 : goal.invariant_of-self-in_err-reserve-2
invariant_of-self-in_err-reserve-2 c =
    let w = c.self.inside in (
      c.self.invariant.0,
      c.self.invariant.1,
      ready_changed w.functions w.functions (spare w.symbols) (spare w.setters) w.methods w.spares.items w.additions.items c.reserve-2.new.self c.self.invariant.2
          refl refl c.reserve-2.ensures.len c.reserve-2.ensures.capacity (λ n g h. h),
      kept_same w.accessors c.reserve.new.self w.methods.items c.reserve-2.new.self.items c.self.invariant.3 c.reserve.ensures.same c.reserve-2.ensures.items,
      (omega (arith, c.self.invariant.4.0, c.reserve.ensures.spare), omega (arith, c.self.invariant.4.1, c.reserve.ensures.len, c.reserve.ensures.capacity)),
      subst (λ l. AreThere (functions_in w.functions.items) l) (sym c.reserve-2.ensures.items) c.self.invariant.5,
      subst (λ l. AreNoted w.functions.items l) (sym c.reserve-2.ensures.items) c.self.invariant.6,
      subst (λ l. AreSound (functions_in w.functions.items) l) (sym c.reserve-2.ensures.items) c.self.invariant.7,
    )

pub invariant_of-self-in_err-replaced : goal.invariant_of-self-in_err-replaced
invariant_of-self-in_err-replaced c =
    let w = c.self.inside in (
      same_indexed Symbol (λ n. get same_name w.symbols n) (functions_in w.functions.items) (functions_in c.put_at.new.functions.items) c.self.invariant.0 c.in_err-replaced.ensures.err,
      same_indexed Setf (λ n. get same_name w.setters n) (functions_in w.functions.items) (functions_in c.put_at.new.functions.items) c.self.invariant.1 c.in_err-replaced.ensures.err,
      ready_changed w.functions c.put_at.new.functions (spare w.symbols) (spare w.setters) w.methods w.spares.items w.additions.items c.reserve-2.new.self c.self.invariant.2
          c.put_at.ensures.len c.put_at.ensures.capacity c.reserve-2.ensures.len c.reserve-2.ensures.capacity c.in_err-replaced.ensures.err_rooms,
      kept_same w.accessors c.reserve.new.self w.methods.items c.reserve-2.new.self.items c.self.invariant.3 c.reserve.ensures.same c.reserve-2.ensures.items,
      (omega (arith, c.self.invariant.4.0, c.reserve.ensures.spare), omega (arith, c.self.invariant.4.1, c.reserve.ensures.len, c.reserve.ensures.capacity)),
      there_same (functions_in w.functions.items) (functions_in c.put_at.new.functions.items) w.methods.items c.reserve-2.new.self.items
          c.self.invariant.5 c.in_err-replaced.ensures.err c.reserve-2.ensures.items,
      noted_same w.functions.items c.put_at.new.functions.items w.methods.items c.reserve-2.new.self.items c.self.invariant.6
          c.in_err-replaced.ensures.err c.reserve-2.ensures.items c.put_at.ensures.notes,
      sound_same (functions_in w.functions.items) (functions_in c.put_at.new.functions.items) w.methods.items c.reserve-2.new.self.items
          c.self.invariant.7 c.in_err-replaced.ensures.err c.reserve-2.ensures.items,
    )

pub returns-in_err-replaced-clause-succeeds : goal.returns-in_err-replaced-clause-succeeds
returns-in_err-replaced-clause-succeeds c = λ h.
    let r = first_room c.self.inside.functions.items c.self.inside.additions.items c.args.self.now.additions c.args.id.0 (ap (λ t. t.additions) c.self.view_is) h c.self.invariant.2.rooms in
    absurd (true≢false (sym (c.in_err-replaced.ensures.succeeds r)))

pub invariant_of-self-2 : goal.invariant_of-self-2
invariant_of-self-2 c =
    let w = c.self.inside in
    let change = with_methods (added c.deref.result.now c.args.method) in
    let kept : IsKept c.reserve.new.self c.reserve-2.new.self.items =
    kept_same w.accessors c.reserve.new.self w.methods.items c.reserve-2.new.self.items c.self.invariant.3 c.reserve.ensures.same c.reserve-2.ensures.items in
    let places : HasPlaces (length w.additions.items) c.reserve.new.self =
    (omega (arith, c.self.invariant.4.0, c.reserve.ensures.spare), omega (arith, c.self.invariant.4.1, c.reserve.ensures.len, c.reserve.ensures.capacity)) in
    let fs = w.functions.items in
    let es = c.put_at.new.functions.items in
    let ms = c.reserve-2.new.self.items in
    let there : AreThere (functions_in fs) ms =
    subst (λ l. AreThere (functions_in fs) l) (sym c.reserve-2.ensures.items) c.self.invariant.5 in
    let noted : AreNoted fs ms = subst (λ l. AreNoted fs l) (sym c.reserve-2.ensures.items) c.self.invariant.6 in
    let sound : AreSound (functions_in fs) ms =
    subst (λ l. AreSound (functions_in fs) l) (sym c.reserve-2.ensures.items) c.self.invariant.7 in
    let fits : takes_in c.args.method.shape (slice_get (functions_in fs) c.args.id.0) ≡ true =
    subst (λ h. takes_in c.args.method.shape (slice_get h.table.functions c.args.id.0) ≡ true) (sym c.self.view_is)
    c.requires.fits in
    let seen : functions_in es ≡ with_changed (with_methods (added ms c.args.method)) c.args.id.0 (functions_in fs) =
    subst (λ l. functions_in es ≡ with_changed (with_methods (added l c.args.method)) c.args.id.0 (functions_in fs)) c.deref.ensures.value
    c.in_ok-replaced.ensures.ok in (
      still_indexed change (λ f. refl) Symbol (λ n. get same_name w.symbols n) (functions_in w.functions.items) (functions_in c.put_at.new.functions.items) c.args.id.0 c.self.invariant.0
          c.in_ok-replaced.ensures.ok,
      still_indexed change (λ f. refl) Setf (λ n. get same_name w.setters n) (functions_in w.functions.items) (functions_in c.put_at.new.functions.items) c.args.id.0 c.self.invariant.1
          c.in_ok-replaced.ensures.ok,
      ready_added w.functions c.put_at.new.functions (spare w.symbols) (spare w.setters) w.methods c.push_reserved.new.self w.spares.items (λ h. h.0 == c.args.id.0) w.additions.items
          c.pass_addition.new.additions.items c.self.invariant.2 c.pass_addition.ensures c.put_at.ensures.len c.put_at.ensures.capacity
          (c.push_reserved.ensures.len ∙ ap (λ n. n + 1) c.reserve-2.ensures.len)
          (omega (arith, c.reserve-2.ensures.capacity, c.push_reserved.ensures.capacity)) c.push_reserved.new.self.ok.1 c.in_ok-replaced.ensures.rooms,
      subst (λ l. IsKept c.note.new.self l) (sym c.push_reserved.ensures.items)
          (kept_more c.reserve.new.self c.note.new.self c.reserve-2.new.self.items c.args.method (record { 0 = c.len.result }) kept
          (c.len.ensures ∙ c.reserve-2.new.self.ok.0) c.note.ensures.more),
      places_after c.reserve.new.self c.note.new.self (λ h. h.0 == c.args.id.0) w.additions.items c.pass_addition.new.additions.items c.pass_addition.ensures places
          c.in_ok-reserve.ensures.ok c.note.ensures.spare c.note.ensures.len c.note.ensures.capacity,
      subst (λ l. AreThere (functions_in es) l) (sym c.push_reserved.ensures.items)
          (there_added (functions_in fs) (functions_in es) ms c.args.method c.args.id.0 there seen),
      subst (λ l. AreNoted es l) (sym c.push_reserved.ensures.items)
          (noted_added fs es ms c.args.method c.args.id.0 there noted seen c.put_at.ensures.notes
          (λ l. c.in_ok-replaced.ensures.eql (omega (arith, l, w.functions.ok.0)))),
      subst (λ l. AreSound (functions_in es) l) (sym c.push_reserved.ensures.items)
          (subst (λ l. AreSound l (ms ++ c.args.method ∷ [])) (sym seen)
          (added_sound (functions_in fs) ms sound c.args.id.0 c.args.method c.requires.specialized fits)),
    )
