use Rattle.std.proofs.Common.{◌≡◌, ap, ◌∙◌, sym, length, [], ◌∷◌, ◌++◌, subst}
use Rattle.std.specs.Prelude.{slice_get}
use Rattle.std.specs.Option.{option_or}
use Rattle.std.specs.HashMap.{get, spare}
use Rattle.std.proofs.lemmas.List.{length-map}
use Rattle.lisp_data.specs.Name.{same_name}
use Rattle.clos_forms.specs.declared.operator.FunctionName.TheVariants.{Symbol, Setf}
use Rattle.clos_generic.specs.inner.Reserved.{HasSpare}
use Rattle.clos_generic.specs.Held.{after_first}
use Rattle.clos_generic.specs.Sound.{AreSound}
use Rattle.clos_generic.specs.Table.{same_function}
use Rattle.clos_generic.specs.TableView.{function_of, functions_in, noted}
use Rattle.clos_generic.specs.declared.spare.Spare.{Spare}
use Rattle.clos_generic.proofs.EqlNoted.{noted_made}
use Rattle.clos_generic.proofs.Named.{one_more_indexed, one_more_seen, one_name}
use Rattle.clos_generic.proofs.Ready.{first_passes, first_there, ready_made}
use Rattle.clos_generic.proofs.Soundness.{made_sound}
use Rattle.clos_generic.proofs.There.{there_made}
use Rattle.clos_generic.proofs.table.Generics.make_reserved.Goals as goal

pub new-requires : goal.new-requires
new-requires c =
    let p = λ (s : Spare). same_function s.key c.args.name in
    let e : c.self.inside.spares.items ≡ c.in-Some.spare ∷ after_first p c.self.inside.spares.items = first_there p c.self.inside.spares.items c.in-Some.spare c.in-Some.ensures.found in
    let h : HasSpare (length c.self.inside.additions.items) (slice_get (c.in-Some.spare ∷ after_first p c.self.inside.spares.items) 0) =
    subst (λ l. HasSpare (length c.self.inside.additions.items) (slice_get l 0)) e (c.self.invariant.2.spare_rooms 0) in
    h.0

pub invariant_of-self : goal.invariant_of-self
invariant_of-self c =
    let w = c.self.inside in
    let p = λ (s : Spare). same_function s.key c.args.name in
    let f = c.new.result in
    let fs = w.functions.items in
    let k : c.in-Some.spare.key ≡ c.args.name = one_name c.in-Some.spare.key c.args.name (first_passes p w.spares.items c.in-Some.spare c.in-Some.ensures.found) in
    let e : functions_in c.push_reserved.new.self.items ≡ functions_in fs ++ function_of f ∷ [] = ap functions_in c.push_reserved.ensures.items ∙ one_more_seen fs f in
    let l : c.len.result ≡ length (functions_in fs) = c.len.ensures ∙ w.functions.ok.0 ∙ sym (length-map fs function_of) in
    let n : c.in-Some.spare.key ≡ (function_of f).name = k ∙ sym (ap (λ x. x.name) c.new.ensures.seen) in (
      one_more_indexed Symbol (λ n. get same_name w.symbols n) (λ n. get same_name c.note_function.new.symbols n) (functions_in fs) (functions_in c.push_reserved.new.self.items) (function_of f)
          (record { 0 = c.len.result }) c.self.invariant.0
          (λ m. c.in-Ok.ensures.symbols m ∙ ap (λ x. option_or (get same_name w.symbols m) (noted x (record { 0 = c.len.result }) (Symbol m))) n) l e,
      one_more_indexed Setf (λ n. get same_name w.setters n) (λ n. get same_name c.note_function.new.setters n) (functions_in fs) (functions_in c.push_reserved.new.self.items) (function_of f)
          (record { 0 = c.len.result }) c.self.invariant.1
          (λ m. c.in-Ok.ensures.setters m ∙ ap (λ x. option_or (get same_name w.setters m) (noted x (record { 0 = c.len.result }) (Setf m))) n) l e,
      ready_made w.functions c.push_reserved.new.self (spare w.symbols) (spare w.setters) w.methods w.spares.items w.additions.items c.in-Some.spare c.take_spare.new.spares.items f
          (spare c.note_function.new.symbols) (spare c.note_function.new.setters) c.self.invariant.2
          (first_there p w.spares.items c.in-Some.spare c.in-Some.ensures.found ∙ ap (λ x. c.in-Some.spare ∷ x) (sym c.in-Some.ensures.rest))
          c.push_reserved.ensures.len c.push_reserved.ensures.capacity c.push_reserved.ensures.items c.new.ensures.methods c.in-Ok.ensures.spare_symbols c.in-Ok.ensures.spare_setters,
      c.self.invariant.3,
      c.self.invariant.4,
      there_made (functions_in fs) (functions_in c.push_reserved.new.self.items) (function_of f) w.methods.items c.self.invariant.5 e
          (ap (λ x. x.methods) c.new.ensures.seen),
      noted_made fs c.push_reserved.new.self.items f w.methods.items c.self.invariant.6 c.push_reserved.ensures.items
          (ap (λ x. x.methods) c.new.ensures.seen),
      subst (λ l. AreSound l w.methods.items) (sym (e ∙ ap (λ x. functions_in fs ++ x ∷ []) c.new.ensures.seen))
          (made_sound (functions_in fs) w.methods.items c.self.invariant.7 c.args.name c.args.options c.requires.orderly),
    )
