-- Uses through the levels of the machine, and through its turns.
use Rattle.std.proofs.Common.{◌≡◌, ℕ, suc, ◌+◌, Result, Ok, Err, List, [], ◌∷◌, ◌++◌, refl, ap, arith, sym, subst, ◌∙◌, append-nil, append_assoc, add-zero, add_assoc}
use Rattle.std.proofs.Common.{inl}
use Rattle.std.specs.Prelude.{ℤ, Option, Some, None, drop, option_map, take}
use Rattle.lisp_data.specs.Value.{Val}
use Rattle.lisp_data.specs.declared.value.Value.{Value}
use Rattle.clos_meaning.specs.Contexts.{Context}
use Rattle.clos_meaning.specs.clos_world.clos_cache.Uses.{Uses}
use Rattle.clos_meaning.specs.clos_world.Uses.{AtMostOneMore}
use Rattle.clos_meaning.specs.clos_world.Dispatch.{required_by}
use Rattle.clos_meaning.specs.clos_world.Keys.{argument_at, arguments_from, key_of}
use Rattle.clos_meaning.specs.clos_world.World.{Local, State, bound_as}
use Rattle.clos_meaning.specs.clos_world.declared.condition.Condition.{Condition}
use Rattle.clos_meaning.specs.clos_world.declared.condition.Stop.{Stop}
use Rattle.clos_meaning.specs.clos_world.declared.condition.Stop.TheVariants.{Refused, Storage}
use Rattle.clos_meaning.specs.Host.{Host, answered_by, may_answer}
use Rattle.clos_meaning.specs.Meaning.{closed}
use Rattle.clos_meaning.specs.Outcome.{Asked, End, Gave, Given, Looked, Note, Noted, Out, Run, Signalled, Stopped, then_do}
use Rattle.clos_meaning.specs.Uses.{after_notes, most, notes_by, noted, with_note}
use Rattle.clos_machine.specs.Machine.{Asks, Leads, Turns, at, denote, inside, resume}
use Rattle.clos_machine.specs.Uses.{KeepsBy, KeptAfter, LeadsBy, Made, MadeSome, Notes, TurnsBy}
use Rattle.clos_machine.specs.declared.machine.Doing.{Doing}
use Rattle.clos_machine.specs.declared.machine.Level.{Level}
use Rattle.clos_machine.specs.declared.machine.Machine.{Machine}
use Rattle.clos_machine.proofs.Answering.{permitted}
use Rattle.clos_machine.proofs.Runs.{turns_of_leads}
use Rattle.clos_machine.proofs.Turns.{noted_closed}

-- ---- what is kept

-- nothing more is kept than was
pub nothing_more : (u u' : Uses) → u' ≡ u → AtMostOneMore most u u'
nothing_more u u' e = record { kept = ap (λ x. x.kept) e; built = inl (ap (λ x. x.built) e) }

-- where no use was made
pub kept_none : {A : Type 0} (r : Result A Stop) (u u' : Uses) → u' ≡ u → KeptAfter [] r u u'
kept_none (Ok x) u u' e = e
kept_none (Err (Refused c)) u u' e = e
kept_none (Err Storage) u u' e = record { made = []; left = []; first = refl; kept = nothing_more u u' e }

-- after one use
pub kept_used : {A : Type 0} (n : Note) (notes : List Note) (r : Result A Stop) (u u' : Uses) → KeptAfter notes r (with_note n u) u'
    → KeptAfter (n ∷ notes) r u u'
kept_used n notes (Ok x) u u' h = h
kept_used n notes (Err (Refused c)) u u' h = h
kept_used n notes (Err Storage) u u' h = record { made = n ∷ h.made; left = h.left; first = ap (λ l. n ∷ l) h.first; kept = h.kept }

-- where all were made
pub kept_all : {A : Type 0} (notes : List Note) (r : Result A Stop) (u u' : Uses) → u' ≡ after_notes notes u → KeptAfter notes r u u'
kept_all notes (Ok x) u u' e = e
kept_all notes (Err (Refused c)) u u' e = e
kept_all notes (Err Storage) u u' e = record { made = notes; left = []; first = sym (append-nil notes); kept = nothing_more (after_notes notes u) u' e }

-- where the first use was refused
pub none_made : (notes : List Note) (u u' : Uses) → AtMostOneMore most u u' → MadeSome notes u u'
none_made notes u u' h = record { made = []; left = notes; first = refl; kept = h }

-- ---- what is noted first

-- .. is noted first through all levels
pub noted_through : (ls : List Level) (env : Context) (notes : List Note) (o : Out)
    → closed (resume ls env (noted notes o)) ≡ noted notes (closed (resume ls env o))
noted_through ls env [] o = refl
noted_through ls env (n ∷ notes) o = noted_closed ls env n (noted notes o) ∙ ap (Noted n) (noted_through ls env notes o)

pub noted_more : (xs ys : List Note) (o : Out) → noted (xs ++ ys) o ≡ noted xs (noted ys o)
noted_more [] ys o = refl
noted_more (x ∷ xs) ys o = ap (Noted x) (noted_more xs ys o)

-- ---- variables are no part of a key

arguments_bound : (ls : List Local) (w : State) (g place : ℕ) (vs : List Val) → arguments_from (bound_as ls w) g place vs ≡ arguments_from w g place vs
arguments_bound ls w g place [] = refl
arguments_bound ls w g place (v ∷ vs) = ap (λ l. argument_at w g place v ∷ l) (arguments_bound ls w g (suc place) vs)

pub key_bound : (ls : List Local) (w : State) (g : ℕ) (vs : List Val) → key_of (bound_as ls w) g vs ≡ key_of w g vs
key_bound ls w g vs = ap (λ ks. record { generic = g; arguments = ks }) (arguments_bound ls w g 0 (take (required_by w g) vs))

-- ---- handlers

module _ (run : Run) (w : State) (u u' : Uses) (r : Result Doing Stop) (m : Machine) where
  pub leads_none : u' ≡ u → Leads run w r m → LeadsBy run w u r m u'
  leads_none e h = record { notes = []; rest = run; first = λ t. refl; leads = h; kept = kept_none r u u' e }

  pub leads_by_same : (run' : Run) → ((t : ℕ) → run w t ≡ run' w t) → LeadsBy run w u r m u' → LeadsBy run' w u r m u'
  leads_by_same run' e h = record { notes = h.notes; rest = h.rest; first = λ t. sym (e t) ∙ h.first t; leads = h.leads; kept = h.kept }

-- memory was refused, and nothing more was noted
pub leads_storage : (run : Run) (w : State) (u : Uses) (m : Machine) → LeadsBy run w u (Err Storage) m u
leads_storage run w u m = leads_none run w u u (Err Storage) m refl tt

-- memory was refused for a use
pub leads_refused_use : (run : Run) (w : State) (u u' : Uses) (m : Machine) → AtMostOneMore most u u' → LeadsBy run w u (Err Storage) m u'
leads_refused_use run w u u' m h = record { notes = []; rest = run; first = λ t. refl; leads = tt; kept = none_made [] u u' h }

-- the run notes these first
pub leads_noting : (m0 : Machine) (run rest : Run) (notes : List Note) (w : State) (u u' : Uses) (r : Result Doing Stop) (m : Machine)
    → ((t : ℕ) → run (at m0 w) t ≡ noted notes (rest (at m0 w) t)) → Leads (inside m0 rest) w r m → KeptAfter notes r u u'
    → LeadsBy (inside m0 run) w u r m u'
leads_noting m0 run rest notes w u u' r m e h k = record {
  notes = notes;
  rest = inside m0 rest;
  first = λ t. ap (λ o. closed (resume m0.levels m0.context o)) (e t) ∙ noted_through m0.levels m0.context notes (rest (at m0 w) t);
  leads = h;
  kept = k;
}

-- after uses that were made
leads_more : (m0 : Machine) (run rest : Run) (notes : List Note) (w : State) (u u' : Uses) (r : Result Doing Stop) (m : Machine)
    → ((t : ℕ) → run (at m0 w) t ≡ noted notes (rest (at m0 w) t))
    → (h : LeadsBy (inside m0 rest) w (after_notes notes u) r m u')
    → KeptAfter (notes ++ h.notes) r u u' → LeadsBy (inside m0 run) w u r m u'
leads_more m0 run rest notes w u u' r m e h k = record {
  notes = notes ++ h.notes;
  rest = h.rest;
  first = λ t. ap (λ o. closed (resume m0.levels m0.context o)) (e t) ∙ noted_through m0.levels m0.context notes (rest (at m0 w) t)
      ∙ ap (noted notes) (h.first t) ∙ sym (noted_more notes h.notes (h.rest w t));
  leads = h.leads;
  kept = k;
}

kept_more : {A : Type 0} (notes others : List Note) (r : Result A Stop) (u u' : Uses) → KeptAfter others r (after_notes notes u) u'
    → KeptAfter (notes ++ others) r u u'
kept_more [] others r u u' h = h
kept_more (n ∷ notes) others r u u' h = kept_used n (notes ++ others) r u u' (kept_more notes others r (with_note n u) u' h)

-- the run notes these first, and they were made
pub leads_used : (m0 : Machine) (run rest : Run) (notes : List Note) (w v : State) (u mid u' : Uses) (r : Result Doing Stop) (m : Machine)
    → ((t : ℕ) → run (at m0 w) t ≡ noted notes (rest (at m0 w) t)) → v ≡ w → mid ≡ after_notes notes u
    → LeadsBy (inside m0 rest) v mid r m u' → LeadsBy (inside m0 run) w u r m u'
leads_used m0 run rest notes w v u mid u' r m e q k h =
    let at_w : LeadsBy (inside m0 rest) w mid r m u' = subst (λ x. LeadsBy (inside m0 rest) x mid r m u') q h in
    let from : LeadsBy (inside m0 rest) w (after_notes notes u) r m u' = subst (λ x. LeadsBy (inside m0 rest) w x r m u') k at_w in
    leads_more m0 run rest notes w u u' r m e from (kept_more notes from.notes r u u' from.kept)

-- ---- turns

module _ (run : Run) (w : State) (s : ℕ) (u u' : Uses) (r : Result Doing Stop) (m : Machine) (w' : State) (s' : ℕ) where
  pub turns_none : u' ≡ u → Turns run w s r m w' s' → TurnsBy run w s u r m w' s' u'
  turns_none e h = record { notes = []; rest = run; first = λ t. refl; turns = h; kept = kept_none r u u' e }

  pub turns_by_same : (run' : Run) → ((t : ℕ) → run w t ≡ run' w t) → TurnsBy run w s u r m w' s' u' → TurnsBy run' w s u r m w' s' u'
  turns_by_same run' e h = record { notes = h.notes; rest = h.rest; first = λ t. sym (e t) ∙ h.first t; turns = h.turns; kept = h.kept }

-- a handler that takes no step and notes nothing
pub turns_none_of : (run : Run) (w : State) (s : ℕ) (u : Uses) (r : Result Doing Stop) (m : Machine) → Leads run w r m → TurnsBy run w s u r m w s u
turns_none_of run w s u r m h = turns_none run w s u u r m w s refl (turns_of_leads run w s r m h)

-- memory was refused, and nothing more was noted
pub turns_storage : (run : Run) (w : State) (s : ℕ) (u : Uses) (m : Machine) → TurnsBy run w s u (Err Storage) m w s u
turns_storage run w s u m = turns_none run w s u u (Err Storage) m w s refl (refl, refl)

-- a handler that takes no step
pub turns_by : (run : Run) (w w' : State) (s : ℕ) (u u' : Uses) (r : Result Doing Stop) (m : Machine) → w' ≡ w → LeadsBy run w u r m u'
    → TurnsBy run w s u r m w' s u'
turns_by run w w' s u u' r m e h = record {
  notes = h.notes;
  rest = h.rest;
  first = h.first;
  turns = subst (λ x. Turns h.rest w s r m x s) (sym e) (turns_of_leads h.rest w s r m h.leads);
  kept = h.kept;
}

-- ---- what a host's functions answer, and the uses, where some are noted first

pub answered_noted : (host : Host) (notes : List Note) (o : Out) (xs : List ℤ) → answered_by host (noted notes o) xs ≡ answered_by host o xs
answered_noted host [] o xs = refl
answered_noted host (n ∷ notes) o xs = answered_noted host notes o xs

pub notes_noted : (host : Host) (notes : List Note) (o : Out) (xs : List ℤ) → notes_by host (noted notes o) xs ≡ notes ++ notes_by host o xs
notes_noted host [] o xs = refl
notes_noted host (n ∷ notes) o xs = ap (λ l. n ∷ l) (notes_noted host notes o xs)

-- what such a turn comes to, by what the host's functions answer
pub turns_by_ask : (host : Host) (run : Run) (w : State) (s : ℕ) (past : List ℤ) (u u' : Uses) (r : Result Doing Stop) (m : Machine) (w' : State)
    (s' : ℕ) → TurnsBy run w s u r m w' s' u' → Asks host run w s past r m w' s' past
turns_by_ask host run w s past u u' (Ok d) m w' s' h = (
  h.turns.0,
  [],
  h.turns.1,
  sym (append-nil past),
  λ t more. ap (λ o. answered_by host o more) (h.turns.2 t) ∙ sym (answered_noted host h.notes (h.rest w (h.turns.0 + t)) more)
      ∙ ap (λ o. answered_by host o more) (sym (h.first (h.turns.0 + t))),
)
turns_by_ask host run w s past u u' (Err (Refused c)) m w' s' h = (
  refl,
  ap (λ o. answered_by host o []) (h.first s) ∙ answered_noted host h.notes (h.rest w s) [] ∙ ap (λ o. answered_by host o []) h.turns,
)
turns_by_ask host run w s past u u' (Err Storage) m w' s' h = (refl, h.turns.0, h.turns.1)

notes_first : (host : Host) (run : Run) (w : State) (t : ℕ) (notes : List Note) (rest : Run) (more : List ℤ) → run w t ≡ noted notes (rest w t)
    → notes_by host (run w t) more ≡ notes ++ notes_by host (rest w t) more
notes_first host run w t notes rest more e = ap (λ o. notes_by host o more) e ∙ notes_noted host notes (rest w t) more

-- where the run goes on after these uses
pub made_of_more : (notes others : List Note) (u u' : Uses) → MadeSome notes u u' → MadeSome (notes ++ others) u u'
made_of_more notes others u u' h = record {
  made = h.made;
  left = h.left ++ others;
  first = ap (λ l. l ++ others) h.first ∙ append_assoc h.made h.left others;
  kept = h.kept;
}

-- .. by the uses that it makes
pub turns_by_note : (host : Host) (run : Run) (w : State) (s : ℕ) (past : List ℤ) (u u' : Uses) (r : Result Doing Stop) (m : Machine) (w' : State)
    (s' : ℕ) → TurnsBy run w s u r m w' s' u' → Notes host run w s past u r m w' s' past u'
turns_by_note host run w s past u u' (Ok d) m w' s' h = (
  h.turns.0,
  [],
  h.notes,
  h.turns.1,
  sym (append-nil past),
  h.kept,
  λ t more. notes_first host run w (h.turns.0 + t) h.notes h.rest more (h.first (h.turns.0 + t))
      ∙ ap (λ o. h.notes ++ notes_by host o more) (sym (h.turns.2 t)),
)
turns_by_note host run w s past u u' (Err (Refused c)) m w' s' h = (
  refl,
  h.kept ∙ ap (λ l. after_notes l u) (sym (append-nil h.notes) ∙ ap (λ o. h.notes ++ notes_by host o []) (sym h.turns)
      ∙ sym (notes_first host run w s h.notes h.rest [] (h.first s))),
)
turns_by_note host run w s past u u' (Err Storage) m w' s' h = (
  refl,
  h.turns.1,
  λ t. subst (λ l. MadeSome l u u') (sym (notes_first host run w t h.notes h.rest [] (h.first t)))
      (made_of_more h.notes (notes_by host (h.rest w t) []) u u' h.kept),
)

-- ---- a run

pub after_more : (notes others : List Note) (u : Uses) → after_notes (notes ++ others) u ≡ after_notes others (after_notes notes u)
after_more [] others u = refl
after_more (n ∷ notes) others u = after_more notes others (with_note n u)

module _ (host : Host) (run : Run) (w0 : State) (s0 : ℕ) (past0 : List ℤ) (u0 : Uses) (den : Run) (w : State) (s : ℕ) (past : List ℤ) (u : Uses)
    (r : Made host run w0 s0 past0 u0 den w s past u) where
  -- the uses of the run are those that were made and those of what is left, where no more answers come
  pub all_notes : (t : ℕ) → notes_by host (run w0 (r.taken + t)) r.answers ≡ r.notes ++ notes_by host (den w t) []
  all_notes t = ap (λ xs. notes_by host (run w0 (r.taken + t)) xs) (sym (append-nil r.answers)) ∙ r.same t []

  all_after : (t : ℕ) → after_notes (notes_by host (den w t) []) u ≡ after_notes (notes_by host (run w0 (r.taken + t)) r.answers) u0
  all_after t = ap (after_notes (notes_by host (den w t) [])) r.kept ∙ sym (after_more r.notes (notes_by host (den w t) []) u0)
      ∙ ap (λ l. after_notes l u0) (sym (all_notes t))

  pub made_on : (d : Doing) (m : Machine) (w' : State) (s' : ℕ) (past' : List ℤ) (u' : Uses)
      → Notes host den w s past u (Ok d) m w' s' past' u' → Made host run w0 s0 past0 u0 (denote m d) w' s' past' u'
  made_on d m w' s' past' u' e = record {
    taken = r.taken + e.0;
    answers = r.answers ++ e.1;
    notes = r.notes ++ e.2;
    steps = r.steps ∙ ap (λ k. r.taken + k) e.3 ∙ sym (add_assoc r.taken e.0 s');
    heard = e.4 ∙ ap (λ xs. xs ++ e.1) r.heard ∙ append_assoc past0 r.answers e.1;
    same = λ t more. ap (λ k. notes_by host (run w0 k) ((r.answers ++ e.1) ++ more)) (add_assoc r.taken e.0 t)
        ∙ ap (λ xs. notes_by host (run w0 (r.taken + (e.0 + t))) xs) (append_assoc r.answers e.1 more) ∙ r.same (e.0 + t) (e.1 ++ more)
        ∙ ap (λ l. r.notes ++ l) (e.6 t more) ∙ sym (append_assoc r.notes e.2 (notes_by host (denote m d w' t) more));
    kept = e.5 ∙ ap (after_notes e.2) r.kept ∙ sym (after_more r.notes e.2 u0);
  }

  pub made_ended : (stop : Stop) (m : Machine) (w' : State) (s' : ℕ) (past' : List ℤ) (u' : Uses)
      → Notes host den w s past u (Err stop) m w' s' past' u' → KeepsBy host run w0 s0 past0 u0 (Err stop) s' past' u'
  made_ended (Refused c) m w' s' past' u' e = (
    r.answers,
    e.0 ∙ r.heard,
    e.1 ∙ all_after s ∙ ap (λ k. after_notes (notes_by host (run w0 k) r.answers) u0) (sym r.steps),
  )
  made_ended Storage m w' s' past' u' e =
      let x : MadeSome (notes_by host (den w 0) []) u u' = e.2 0 in (
        r.answers,
        e.0 ∙ r.heard,
        r.taken,
        r.steps ∙ ap (λ k. r.taken + k) (sym e.1),
        record {
          made = r.notes ++ x.made;
          left = x.left;
          first = ap (λ k. notes_by host (run w0 k) r.answers) (sym (add-zero r.taken)) ∙ all_notes 0 ∙ ap (λ l. r.notes ++ l) x.first
              ∙ sym (append_assoc r.notes x.made x.left);
          kept = subst (λ v. AtMostOneMore most v u') (ap (after_notes x.made) r.kept ∙ sym (after_more r.notes x.made u0)) x.kept;
        },
      )

  -- nothing is left to do
  pub made_finished : (v : Value) → notes_by host (den w s) [] ≡ [] → KeepsBy host run w0 s0 past0 u0 (Ok v) s past u
  made_finished v e = (
    r.answers,
    r.heard,
    sym (ap (λ l. after_notes l u) e) ∙ all_after s ∙ ap (λ k. after_notes (notes_by host (run w0 k) r.answers) u0) (sym r.steps),
  )

-- memory is refused at once
pub nothing_kept : (host : Host) (run : Run) (w : State) (s : ℕ) (past : List ℤ) (u : Uses) → KeepsBy host run w s past u (Err Storage) s past u
nothing_kept host run w s past u = ([], sym (append-nil past), 0, omega arith, none_made (notes_by host (run w 0) []) u u (nothing_more u u refl))

-- ---- uses of what follows

abbrev notes_after : Host → Option End → (Val → Run) → List ℤ → List Note
notes_after host None go more = []
notes_after host (Some (Given v w s)) go more = notes_by host (go v w s) more
notes_after host (Some (Signalled c w s)) go more = []

-- where the run gives a value, those of what follows come after its own
pub notes_then : (host : Host) (o : Out) (go : Val → Run) (used more : List ℤ) (v : Val) (w : State) (s : ℕ)
    → answered_by host o used ≡ Some (Given v w s)
    → notes_by host (then_do o go) (used ++ more) ≡ notes_by host o used ++ notes_by host (go v w s) more
notes_then host (Gave x y k) go [] more v w s h = ap (λ e. notes_after host e go more) h
notes_then host (Gave x y k) go (z ∷ zs) more v w s h = absurd (cc h)
notes_then host (Stopped c y k) go [] more v w s h = absurd (cc h)
notes_then host (Stopped c y k) go (z ∷ zs) more v w s h = absurd (cc h)
notes_then host (Noted n o) go used more v w s h = ap (λ l. n ∷ l) (notes_then host o go used more v w s h)
notes_then host (Looked name f) go used more v w s h = notes_then host (f (option_map (λ g. g.takes) (host name))) go used more v w s h
notes_then host (Asked name ys f) go [] more v w s h = absurd (cc h)
notes_then host (Asked name ys f) go (z ∷ zs) more v w s h =
    notes_then host (f z) go zs more v w s (permitted (may_answer (host name) ys z) (answered_by host (f z) zs) (Given v w s) h).1

-- where it stops, there are no more
pub notes_stopped : (host : Host) (o : Out) (go : Val → Run) (used : List ℤ) (c : Condition) (w : State) (s : ℕ)
    → answered_by host o used ≡ Some (Signalled c w s) → notes_by host (then_do o go) used ≡ notes_by host o used
notes_stopped host (Gave x y k) go [] c w s h = absurd (cc h)
notes_stopped host (Gave x y k) go (z ∷ zs) c w s h = absurd (cc h)
notes_stopped host (Stopped d y k) go used c w s h = refl
notes_stopped host (Noted n o) go used c w s h = ap (λ l. n ∷ l) (notes_stopped host o go used c w s h)
notes_stopped host (Looked name f) go used c w s h = notes_stopped host (f (option_map (λ g. g.takes) (host name))) go used c w s h
notes_stopped host (Asked name ys f) go [] c w s h = absurd (cc h)
notes_stopped host (Asked name ys f) go (z ∷ zs) c w s h =
    notes_stopped host (f z) go zs c w s (permitted (may_answer (host name) ys z) (answered_by host (f z) zs) (Signalled c w s) h).1

-- with these answers some may come after its own, or none
pub notes_longer : (host : Host) (o : Out) (go : Val → Run) (used : List ℤ)
    → (more : List Note) × (notes_by host (then_do o go) used ≡ notes_by host o used ++ more)
notes_longer host (Gave x w s) go used = (notes_by host (go x w s) used, refl)
notes_longer host (Stopped c w s) go used = ([], refl)
notes_longer host (Noted n o) go used = let p = notes_longer host o go used in (p.0, ap (λ l. n ∷ l) p.1)
notes_longer host (Looked name f) go used = notes_longer host (f (option_map (λ g. g.takes) (host name))) go used
notes_longer host (Asked name ys f) go [] = ([], refl)
notes_longer host (Asked name ys f) go (z ∷ zs) = notes_longer host (f z) go zs

-- the answers that came are these
pub same_answers : (past xs ys : List ℤ) → past ++ xs ≡ past ++ ys → xs ≡ ys
same_answers [] xs ys e = e
same_answers (z ∷ zs) xs ys e = same_answers zs xs ys (ap (λ l. drop 1 l) e)

-- a run that does the same from there
pub keeps_as : (host : Host) (run run' : Run) (w : State) (s : ℕ) (past : List ℤ) (u : Uses) (r : Result Value Stop) (s' : ℕ) (past' : List ℤ) (u' : Uses)
    → ((i : ℕ) → run w i ≡ run' w i) → KeepsBy host run w s past u r s' past' u' → KeepsBy host run' w s past u r s' past' u'
keeps_as host run run' w s past u (Ok v) s' past' u' e h = (h.0, h.1, h.2 ∙ ap (λ o. after_notes (notes_by host o h.0) u) (e s))
keeps_as host run run' w s past u (Err (Refused c)) s' past' u' e h = (h.0, h.1, h.2 ∙ ap (λ o. after_notes (notes_by host o h.0) u) (e s))
keeps_as host run run' w s past u (Err Storage) s' past' u' e h =
    (h.0, h.1, h.2, h.3, subst (λ o. MadeSome (notes_by host o h.0) u u') (e h.2) h.4)
