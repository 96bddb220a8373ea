-- Dependents that are added or taken out, and why they are not.
use Rattle.std.proofs.Common.{◌≡◌, ℕ, List, Option, Result, Ok, Err, refl, ap, sym, ◌∙◌, subst}
use Rattle.std.specs.Prelude.{OnErr, OnOk}
use Rattle.lisp_data.specs.Value.{Val}
use Rattle.lisp_data.specs.declared.value.Value.{Value}
use Rattle.clos_making.specs.clos_effects.clos_watch.Watching.{Watched, watching}
use Rattle.clos_making.specs.clos_effects.clos_watch.declared.notice.Metaobject.{Metaobject}
use Rattle.clos_eval.specs.clos_machine.clos_world.Hearing.{Hearing, hearing_of}
use Rattle.clos_eval.specs.clos_machine.clos_world.declared.hearing.Hearing as code
use Rattle.clos_making.proofs.clos_effects.clos_definition.clos_world.Heard.{watching_changed, watching_kept}
use Rattle.clos_eval.specs.clos_machine.Machine.{Answers}
use Rattle.clos_eval.specs.clos_machine.clos_meaning.Outcome.{leaves}
use Rattle.clos_eval.specs.clos_machine.clos_world.World.{State}
use Rattle.clos_eval.specs.clos_machine.clos_world.declared.condition.Condition.{Condition}
use Rattle.clos_eval.specs.clos_machine.clos_world.declared.condition.Stop.{Stop}
use Rattle.clos_eval.specs.clos_machine.clos_world.declared.condition.Stop.TheVariants.{Refused, Storage}
use Rattle.clos_making.specs.Made.{value_at}
use Rattle.clos_definition_forms.specs.Dependents.{FindsWatched, change_of, changed_if, takes_step, values_watched, watched, with_change}
use Rattle.clos_definition_forms.specs.declared.dependents.Change.{Change}
use Rattle.clos_making.proofs.Making.{answers_same, storage_at}

changed_quiet : (c : Change) (r : Result (Metaobject × ℕ) Condition) (w : State) → leaves (changed_if c r w 0) w 0
changed_quiet c (Ok p) w = (refl, refl)
changed_quiet c (Err e) w = (refl, refl)

pub values_watched_quiet : (c : Change) (vs : List (Option Val)) (w : State) → leaves (values_watched c vs w 0) w 0
values_watched_quiet c vs w = changed_quiet c (watched w.hearing.names (value_at vs 0) (value_at vs 1)) w

module _ (c : Change) (vs : List (Option Val)) (w : State) (s : ℕ) where
  pub change_not_begun : Answers (values_watched c vs) w s (Err Storage) w s
  change_not_begun = storage_at (values_watched c vs) w s (values_watched_quiet c vs w)

  not_found : (stop : Stop) → FindsWatched (watched w.hearing.names (value_at vs 0) (value_at vs 1)) (Err stop)
      → Answers (values_watched c vs) w s (Err stop) w s
  not_found (Refused e) h = ap (λ p. changed_if c p w s) h
  not_found Storage h = change_not_begun

  pub not_watched : (m d : Val) (stop : Stop) → m ≡ value_at vs 0 → d ≡ value_at vs 1 → FindsWatched (watched w.hearing.names m d) (Err stop)
      → Answers (values_watched c vs) w s (Err stop) w s
  not_watched m d stop e q h =
      not_found stop
      (subst (λ x. FindsWatched (watched w.hearing.names x (value_at vs 1)) (Err stop)) e
      (subst (λ x. FindsWatched (watched w.hearing.names m x) (Err stop)) q h))

  pub is_changed : (m d : Val) (o : Metaobject) (n j : ℕ) (u : State) (r : Result Value Stop) → m ≡ value_at vs 0 → d ≡ value_at vs 1
      → watched w.hearing.names m d ≡ Ok (o, n) → Answers (takes_step (with_change c o n w)) w s r u j
      → Answers (values_watched c vs) w s r u j
  is_changed m d o n j u r e q h a =
      let p : watched w.hearing.names (value_at vs 0) (value_at vs 1) ≡ Ok (o, n) =
      ap (λ x. watched w.hearing.names x (value_at vs 1)) (sym e) ∙ ap (watched w.hearing.names m) (sym q) ∙ h in
      answers_same (takes_step (with_change c o n w)) (values_watched c vs) w s r u j
      (λ i. sym (ap (λ x. changed_if c x w i) p)) a

-- no memory for the change
pub change_not_made : (t w u : State) (s : ℕ) → u ≡ w → Answers (takes_step t) w s (Err Storage) u s
change_not_made t w u s e = subst (λ x. Answers (takes_step t) w s (Err Storage) x s) (sym e) (storage_at (takes_step t) w s (refl, refl))

-- ---- what is changed

pub on_ok : {T E A B : Type 0} (r : Result T E) → (A → B) → OnOk r A → OnOk r B
on_ok (Ok v) f h = f h
on_ok (Err e) f h = h

pub on_err : {T E A B : Type 0} (r : Result T E) → (A → B) → OnErr r A → OnErr r B
on_err (Ok v) f h = h
on_err (Err e) f h = f h

module _ (w : State) (h : code.Hearing) (x : Watched) (kept : w.hearing ≡ hearing_of h) where
  pub change_made : (c : Change) (m : Metaobject) (p : ℕ) → watching x ≡ change_of c m p (watching h.watchers)
      → record w { hearing = hearing_of (record h { watchers = x }) } ≡ with_change c m p w
  change_made c m p e =
      ap (λ y. record w { hearing = y })
      (watching_changed h x (change_of c m p (watching h.watchers)) e
      ∙ ap (λ f. record (hearing_of h) { watching = change_of c m p f }) (sym (watching_kept h))
      ∙ ap (λ (y : Hearing). record y { watching = change_of c m p y.watching }) (sym kept))

  pub nothing_changed : watching x ≡ watching h.watchers → record w { hearing = hearing_of (record h { watchers = x }) } ≡ w
  nothing_changed e =
      ap (λ y. record w { hearing = y })
      (watching_changed h x (watching h.watchers) e ∙ ap (λ f. record (hearing_of h) { watching = f }) (sym (watching_kept h)) ∙ sym kept)
