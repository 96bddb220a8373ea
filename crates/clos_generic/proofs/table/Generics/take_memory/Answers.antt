use Rattle.std.proofs.Common.{◌≡◌, ap, ◌∙◌, sym, [], length, subst, arith, ℕ}
use Rattle.std.specs.Prelude.{option_map, slice_get}
use Rattle.std.specs.HashMap.{spare}
use Rattle.std.proofs.lemmas.List.{length-map}
use Rattle.clos_forms.specs.declared.operator.FunctionName.TheVariants.{Symbol, Setf}
use Rattle.clos_generic.specs.inner.AccessorMethods.{IsKept}
use Rattle.clos_generic.specs.inner.Reserved.{HasSpare}
use Rattle.clos_generic.specs.Table.{named_in}
use Rattle.clos_generic.specs.TableView.{functions_in}
use Rattle.clos_generic.specs.inner.EqlObjects.{KeepNotes}
use Rattle.clos_generic.proofs.EqlNoted.{noted_same}
use Rattle.clos_generic.proofs.Kept.{kept_same}
use Rattle.clos_generic.proofs.Ready.{no_additions, no_spares, ready_idle}
use Rattle.clos_generic.proofs.Rooms.{room_less}
use Rattle.clos_generic.proofs.Soundness.{sound_same}
use Rattle.clos_generic.proofs.There.{there_same}
use Rattle.clos_generic.proofs.table.Generics.take_memory.Goals as goal

pub invariant_of-self-in_err-reserve-4 : goal.invariant_of-self-in_err-reserve-4
invariant_of-self-in_err-reserve-4 c =
    let w = c.self.inside in
    let fs : functions_in w.functions.items ≡ functions_in c.reserve_each.new.functions.items = sym (c.reserve_each.ensures.same ∙ ap functions_in c.reserve.ensures.items) in
    let notes : KeepNotes w.functions.items c.reserve_each.new.functions.items =
    subst (λ l. KeepNotes l c.reserve_each.new.functions.items) c.reserve.ensures.items c.reserve_each.ensures.notes in
    let s : w.spares.items ≡ [] = no_spares w.spares.items (ap (λ h. h.definitions) c.self.view_is ∙ ap (λ h. h.definitions) c.requires) in
    let a : w.additions.items ≡ [] = no_additions w.additions.items (ap (λ h. h.additions) c.self.view_is ∙ ap (λ h. h.additions) c.requires) in (
      λ n. ap (option_map (λ g. g.0)) (c.in_ok-reserve-2.ensures.entries.2 n) ∙ c.self.invariant.0 n ∙ ap (λ x. named_in x (Symbol n)) fs,
      λ n. ap (option_map (λ g. g.0)) (c.in_ok-reserve-3.ensures.entries.2 n) ∙ c.self.invariant.1 n ∙ ap (λ x. named_in x (Setf n)) fs,
      ready_idle c.reserve_each.new.functions (spare c.reserve-2.new.self) (spare c.reserve-3.new.self) c.reserve-4.new.self w.spares.items w.additions.items s a,
      subst (λ l. IsKept w.accessors l) (sym c.reserve-4.ensures.items) c.self.invariant.3,
      c.self.invariant.4,
      there_same (functions_in w.functions.items) (functions_in c.reserve_each.new.functions.items) w.methods.items
          c.reserve-4.new.self.items c.self.invariant.5 (sym fs) c.reserve-4.ensures.items,
      noted_same w.functions.items c.reserve_each.new.functions.items w.methods.items c.reserve-4.new.self.items c.self.invariant.6 (sym fs)
          c.reserve-4.ensures.items notes,
      sound_same (functions_in w.functions.items) (functions_in c.reserve_each.new.functions.items) w.methods.items
          c.reserve-4.new.self.items c.self.invariant.7 (sym fs) c.reserve-4.ensures.items,
    )

pub invariant_of-self-in_err-reserve-5 : goal.invariant_of-self-in_err-reserve-5
invariant_of-self-in_err-reserve-5 c =
    let w = c.self.inside in
    let fs : functions_in w.functions.items ≡ functions_in c.reserve_each.new.functions.items = sym (c.reserve_each.ensures.same ∙ ap functions_in c.reserve.ensures.items) in
    let notes : KeepNotes w.functions.items c.reserve_each.new.functions.items =
    subst (λ l. KeepNotes l c.reserve_each.new.functions.items) c.reserve.ensures.items c.reserve_each.ensures.notes in
    let s : w.spares.items ≡ [] = no_spares w.spares.items (ap (λ h. h.definitions) c.self.view_is ∙ ap (λ h. h.definitions) c.requires) in
    let a : w.additions.items ≡ [] = no_additions w.additions.items (ap (λ h. h.additions) c.self.view_is ∙ ap (λ h. h.additions) c.requires) in (
      λ n. ap (option_map (λ g. g.0)) (c.in_ok-reserve-2.ensures.entries.2 n) ∙ c.self.invariant.0 n ∙ ap (λ x. named_in x (Symbol n)) fs,
      λ n. ap (option_map (λ g. g.0)) (c.in_ok-reserve-3.ensures.entries.2 n) ∙ c.self.invariant.1 n ∙ ap (λ x. named_in x (Setf n)) fs,
      ready_idle c.reserve_each.new.functions (spare c.reserve-2.new.self) (spare c.reserve-3.new.self) c.reserve-4.new.self w.spares.items w.additions.items s a,
      kept_same w.accessors c.reserve-5.new.self w.methods.items c.reserve-4.new.self.items c.self.invariant.3 c.reserve-5.ensures.same c.reserve-4.ensures.items,
      (omega (arith, c.self.invariant.4.0, c.reserve-5.ensures.spare), omega (arith, c.self.invariant.4.1, c.reserve-5.ensures.len, c.reserve-5.ensures.capacity)),
      there_same (functions_in w.functions.items) (functions_in c.reserve_each.new.functions.items) w.methods.items
          c.reserve-4.new.self.items c.self.invariant.5 (sym fs) c.reserve-4.ensures.items,
      noted_same w.functions.items c.reserve_each.new.functions.items w.methods.items c.reserve-4.new.self.items c.self.invariant.6 (sym fs)
          c.reserve-4.ensures.items notes,
      sound_same (functions_in w.functions.items) (functions_in c.reserve_each.new.functions.items) w.methods.items
          c.reserve-4.new.self.items c.self.invariant.7 (sym fs) c.reserve-4.ensures.items,
    )

pub invariant_of-self-2 : goal.invariant_of-self-2
invariant_of-self-2 c =
    let w = c.self.inside in
    let fs : functions_in w.functions.items ≡ functions_in c.reserve_each.new.functions.items = sym (c.reserve_each.ensures.same ∙ ap functions_in c.reserve.ensures.items) in
    let notes : KeepNotes w.functions.items c.reserve_each.new.functions.items =
    subst (λ l. KeepNotes l c.reserve_each.new.functions.items) c.reserve.ensures.items c.reserve_each.ensures.notes in
    let d : length c.in_ok-spares.spares.items ≡ length c.definitions-definitions.result.now =
    sym (length-map c.in_ok-spares.spares.items (λ s. s.key)) ∙ ap length c.in_ok-spares.ensures.keys ∙ length-map c.definitions.result.now (λ x. x.name)
    ∙ ap length (c.definitions.ensures ∙ sym c.definitions-definitions.ensures) in
    let m : length c.in_ok-additions.additions.items ≡ length c.additions-methods.result.now =
    sym (length-map c.in_ok-additions.additions.items (λ g. g.0)) ∙ ap length c.in_ok-additions.ensures ∙ length-map c.additions.result.now (λ x. x.generic.0)
    ∙ ap length (c.additions.ensures ∙ sym c.additions-methods.ensures) in (
      λ n. ap (option_map (λ g. g.0)) (c.in_ok-reserve-2.ensures.entries.2 n) ∙ c.self.invariant.0 n ∙ ap (λ x. named_in x (Symbol n)) fs,
      λ n. ap (option_map (λ g. g.0)) (c.in_ok-reserve-3.ensures.entries.2 n) ∙ c.self.invariant.1 n ∙ ap (λ x. named_in x (Setf n)) fs,
      record {
        functions_fit = omega (arith, c.in_ok-reserve.ensures.ok, c.reserve_each.ensures.len, c.reserve_each.ensures.capacity, d);
        symbols_fit = omega (arith, c.in_ok-reserve-2.ensures.ok, d);
        setters_fit = omega (arith, c.in_ok-reserve-3.ensures.ok, d);
        methods_fit = omega (arith, c.in_ok-reserve-4.ensures.ok, m);
        rooms = λ g h.
            room_less (length c.additions-methods.result.now) (length c.in_ok-additions.additions.items) (slice_get c.reserve_each.new.functions.items g) (omega (arith, m))
            (c.in_ok-reserve_each.ensures.ok g h);
        spare_rooms = subst (λ n. (k : ℕ) → HasSpare n (slice_get c.in_ok-spares.spares.items k)) (sym m) c.in_ok-spares.ensures.rooms;
      },
      kept_same w.accessors c.reserve-5.new.self w.methods.items c.reserve-4.new.self.items c.self.invariant.3 c.reserve-5.ensures.same c.reserve-4.ensures.items,
      (omega (arith, c.in_ok-reserve-5.ensures.ok.0, m), omega (arith, c.in_ok-reserve-5.ensures.ok.1, m)),
      there_same (functions_in w.functions.items) (functions_in c.reserve_each.new.functions.items) w.methods.items
          c.reserve-4.new.self.items c.self.invariant.5 (sym fs) c.reserve-4.ensures.items,
      noted_same w.functions.items c.reserve_each.new.functions.items w.methods.items c.reserve-4.new.self.items c.self.invariant.6 (sym fs)
          c.reserve-4.ensures.items notes,
      sound_same (functions_in w.functions.items) (functions_in c.reserve_each.new.functions.items) w.methods.items
          c.reserve-4.new.self.items c.self.invariant.7 (sym fs) c.reserve-4.ensures.items,
    )
