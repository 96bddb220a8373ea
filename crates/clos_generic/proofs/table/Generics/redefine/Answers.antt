use Rattle.std.proofs.Common.{◌≡◌, true, refl, subst, sym}
use Rattle.std.specs.Prelude.{slice_get}
use Rattle.std.specs.HashMap.{get, spare}
use Rattle.lisp_data.specs.Name.{same_name}
use Rattle.clos_forms.specs.declared.operator.FunctionName.TheVariants.{Symbol, Setf}
use Rattle.clos_generic.specs.Fault.{all_fit}
use Rattle.clos_generic.specs.Sound.{AreSound}
use Rattle.clos_generic.specs.Table.{methods_in, methods_of, redefined, same_function}
use Rattle.clos_generic.specs.TableView.{functions_in}
use Rattle.clos_generic.proofs.EqlNoted.{noted_changed}
use Rattle.clos_generic.proofs.Named.{still_indexed}
use Rattle.clos_generic.proofs.Ready.{ready_redefined}
use Rattle.clos_generic.proofs.Soundness.{redefined_sound}
use Rattle.clos_generic.proofs.There.{AddsNone, there_changed}
use Rattle.clos_generic.proofs.table.Generics.redefine.Goals as goal

pub invariant_of-self : goal.invariant_of-self
invariant_of-self c =
    let w = c.self.inside in
    let fs = w.functions.items in
    let es = c.redefine_at.new.functions.items in
    let none : AddsNone (redefined c.args.options) = λ n f h. h in
    let fit : all_fit w.methods.items c.args.options.shape (methods_in (slice_get (functions_in fs) c.args.id.0)) ≡ true =
    subst (λ h. all_fit h.table.methods c.args.options.shape (methods_of h.table c.args.id.0) ≡ true) (sym c.self.view_is)
    c.requires.fit in (
      still_indexed (redefined c.args.options) (λ f. refl) Symbol (λ n. get same_name w.symbols n) (functions_in w.functions.items) (functions_in c.redefine_at.new.functions.items)
          c.args.id.0 c.self.invariant.0 c.redefine_at.ensures.seen,
      still_indexed (redefined c.args.options) (λ f. refl) Setf (λ n. get same_name w.setters n) (functions_in w.functions.items) (functions_in c.redefine_at.new.functions.items)
          c.args.id.0 c.self.invariant.1 c.redefine_at.ensures.seen,
      ready_redefined w.functions c.redefine_at.new.functions (spare w.symbols) (spare w.setters) w.methods w.spares.items w.additions.items (λ s. same_function s.key c.args.name.now)
          c.take_spare.new.spares.items c.self.invariant.2 c.take_spare.ensures.rest c.redefine_at.ensures.len c.redefine_at.ensures.capacity c.redefine_at.ensures.rooms,
      c.self.invariant.3,
      c.self.invariant.4,
      there_changed (redefined c.args.options) none (functions_in fs) (functions_in es) w.methods.items c.args.id.0 c.self.invariant.5
          c.redefine_at.ensures.seen,
      noted_changed (redefined c.args.options) none fs es w.methods.items c.args.id.0 c.self.invariant.6 c.redefine_at.ensures.seen
          c.redefine_at.ensures.notes,
      subst (λ l. AreSound l w.methods.items) (sym c.redefine_at.ensures.seen)
          (redefined_sound (functions_in fs) w.methods.items c.self.invariant.7 c.args.id.0 c.args.options c.requires.orderly fit),
    )
