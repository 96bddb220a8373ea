-- The evaluation of the forms of a definition, and what is made with their values.
use Rattle.std.proofs.Common.{◌≡◌, ℕ, ◌+◌, List, [], ◌∷◌, ◌++◌, Option, Some, None, Result, Ok, Err, length, arith, refl, ap, sym, ◌∙◌, subst, add_assoc, append_assoc, append-nil}
use Rattle.std.specs.Prelude.{ℤ}
use Rattle.lisp_data.specs.Value.{Val}
use Rattle.lisp_data.specs.ValueView.{value_of}
use Rattle.lisp_data.specs.declared.value.Value.{Value}
use Rattle.clos_forms.specs.Form.{Form}
use Rattle.clos_eval.specs.Evaluation.{Comes, GoesOn, Performs, followed}
use Rattle.clos_eval.specs.clos_machine.clos_world.Uses.{AtMostOneMore, uses_of}
use Rattle.clos_eval.specs.clos_machine.clos_world.World.{State, seen, unbound}
use Rattle.clos_eval.specs.clos_machine.clos_world.clos_cache.Cache.{Change}
use Rattle.clos_eval.specs.clos_machine.clos_world.declared.condition.Stop.{Stop}
use Rattle.clos_eval.specs.clos_machine.clos_world.declared.condition.Stop.TheVariants.{Refused, Storage}
use Rattle.clos_eval.specs.clos_machine.clos_world.declared.tables.World.{World}
use Rattle.clos_eval.specs.clos_machine.Machine.{Answers, AnswersWith}
use Rattle.clos_eval.specs.clos_machine.Uses.{KeepsBy, MadeSome}
use Rattle.clos_eval.specs.clos_machine.clos_meaning.Contexts.{known}
use Rattle.clos_eval.specs.clos_machine.clos_meaning.Host.{Host, answered_by}
use Rattle.clos_eval.specs.clos_machine.clos_meaning.Meaning.{evaluation}
use Rattle.clos_eval.specs.clos_machine.clos_meaning.Outcome.{Asked, Looked, Noted, Out, Gave, Stopped, Run, then_do, leaves}
use Rattle.clos_eval.specs.clos_machine.clos_meaning.Uses.{after_notes, most, notes_by}
use Rattle.clos_eval.proofs.clos_machine.Answering.{answers_as, answers_with, leaves_then, stopped_then}
use Rattle.clos_eval.proofs.clos_machine.Uses.{after_more, keeps_as, made_of_more, none_made, notes_longer, notes_stopped, nothing_more, same_answers}
use Rattle.clos_eval.proofs.clos_machine.clos_meaning.Quiet.{evaluation_quiet}
use Rattle.clos_making.specs.clos_effects.Effects.{AnswersNoting, UsesAfter}
use Rattle.clos_definition_forms.specs.Forms.{EndsBefore, evaluated, form_evaluated, forms_evaluated}
use Rattle.clos_definition_forms.specs.Variable.{room_below}

-- ---- with no step left nothing changes

-- what follows a value changes nothing
then_quiet : (o : Out) (go : Val → Run) (u : State) → leaves o u 0 → ((v : Val) → leaves (go v u 0) u 0) → leaves (then_do o go) u 0
then_quiet (Stopped c x k) go u h q = h
then_quiet (Noted n o) go u h q = then_quiet o go u h q
then_quiet (Looked name more) go u h q = λ n. then_quiet (more n) go u (h n) q
then_quiet (Asked name xs more) go u h q = absurd h
then_quiet (Gave v x k) go u h q = subst (λ y. leaves (go v y k) u 0) (sym h.0) (subst (λ i. leaves (go v u i) u 0) (sym h.1) (q v))

bare_quiet : (n : ℕ) (f : Form) (w : State) → w.locals ≡ [] → leaves (evaluation n f w 0) w 0
bare_quiet n f w e = subst (λ x. leaves (evaluation n f w 0) x 0) (ap (λ ls. record w { locals = ls }) (sym e)) (evaluation_quiet n (known []) f (unbound w))

form_quiet : (o : Option Form) (go : Option Val → Run) (w : State) → w.locals ≡ [] → ((v : Option Val) → leaves (go v w 0) w 0) → leaves (form_evaluated o go w 0) w 0
form_quiet None go w e q = q None
form_quiet (Some f) go w e q = then_quiet (evaluation (room_below w) f w 0) (λ v. go (Some v)) w (bare_quiet (room_below w) f w e) (λ v. q (Some v))

pub forms_quiet : (cs : List (Option Form)) (vs : List (Option Val)) (go : List (Option Val) → Run) (w : State) → w.locals ≡ [] → ((us : List (Option Val)) → leaves (go us w 0) w 0)
    → leaves (forms_evaluated cs vs go w 0) w 0
forms_quiet [] vs go w e q = q vs
forms_quiet (c ∷ cs) vs go w e q =
    form_quiet c (λ v. forms_evaluated cs (vs ++ v ∷ []) go) w e (λ v. forms_quiet cs (vs ++ v ∷ []) go w e q)

-- ---- runs that ask nothing

module _ (host : Host) (run : Run) (w u : World) (s k : ℕ) (past : List ℤ) where
  -- one that notes nothing
  pub performs_alone : (r : Result Value Stop) → Answers run (seen w) s r (seen u) k → uses_of u ≡ uses_of w → Performs host run w s past r u k past
  performs_alone (Ok v) h e = record {
    answer = answers_with host run (seen w) s past (Ok v) (seen u) k h;
    uses = ([], sym (append-nil past), e ∙ ap (λ o. after_notes (notes_by host o []) (uses_of w)) (sym h));
  }
  performs_alone (Err (Refused c)) h e = record {
    answer = answers_with host run (seen w) s past (Err (Refused c)) (seen u) k h;
    uses = ([], sym (append-nil past), e ∙ ap (λ o. after_notes (notes_by host o []) (uses_of w)) (sym h));
  }
  performs_alone (Err Storage) h e = record {
    answer = answers_with host run (seen w) s past (Err Storage) (seen u) k h;
    uses = ([], sym (append-nil past), h.0, h.1, none_made (notes_by host (run (seen w) h.0) []) (uses_of w) (uses_of u) (nothing_more (uses_of w) (uses_of u) e));
  }

  -- one that notes what its effect concerns, and with no step left changes nothing
  pub performs_noting : (cs : List Change) → leaves (run (seen w) 0) (seen w) 0 → (r : Result Value Stop) → AnswersNoting cs run (seen w) s r (seen u) k
      → UsesAfter cs (seen w) (uses_of w) r (uses_of u) → Performs host run w s past r u k past
  performs_noting cs q (Ok v) h e = record {
    answer = ([], sym (append-nil past), ap (λ o. answered_by host o []) h);
    uses = ([], sym (append-nil past), e ∙ ap (λ o. after_notes (notes_by host o []) (uses_of w)) (sym h));
  }
  performs_noting cs q (Err (Refused c)) h e = performs_alone (Err (Refused c)) h e
  performs_noting cs q (Err Storage) h e =
      performs_alone (Err Storage) (0, omega (arith, h.1), subst (λ x. leaves (run (seen w) 0) x 0) (sym h.0) q) e

-- memory is refused at once
pub performs_storage : (host : Host) (run : Run) (w : World) (s : ℕ) (past : List ℤ) → leaves (run (seen w) 0) (seen w) 0
    → Performs host run w s past (Err Storage) w s past
performs_storage host run w s past l = performs_alone host run w w s s past (Err Storage) (0, omega arith, l) refl

-- a run that does the same from there
pub performs_as : (host : Host) (run run' : Run) (w u : World) (s k : ℕ) (past past' : List ℤ) (r : Result Value Stop) → ((i : ℕ) → run (seen w) i ≡ run' (seen w) i)
    → Performs host run w s past r u k past' → Performs host run' w s past r u k past'
performs_as host run run' w u s k past past' r e h = record {
  answer = answers_as host run run' (seen w) s past r (seen u) k past' e h.answer;
  uses = keeps_as host run run' (seen w) s past (uses_of w) r k past' (uses_of u) e h.uses;
}

-- from a world in which the same is seen and kept
pub performs_from : (host : Host) (run : Run) (w v u : World) (s k : ℕ) (past past' : List ℤ) (r : Result Value Stop) → seen v ≡ seen w → uses_of v ≡ uses_of w
    → Performs host run v s past r u k past' → Performs host run w s past r u k past'
performs_from host run w v u s k past past' r e q h = record {
  answer = subst (λ x. AnswersWith host run x s past r (seen u) k past') e h.answer;
  uses = subst (λ x. KeepsBy host run x s past (uses_of w) r k past' (uses_of u)) e
      (subst (λ x. KeepsBy host run (seen v) s past x r k past' (uses_of u)) q h.uses);
}

-- ---- a value, and then what follows

module _ (host : Host) (run : Run) (go : Val → Run) (w u : World) (s k : ℕ) (past past' : List ℤ) where
  -- there is none
  pub stops_then : (stop : Stop) → ((v : Val) → leaves (go v (seen u) 0) (seen u) 0) → Performs host run w s past (Err stop) u k past'
      → Performs host (followed run go) w s past (Err stop) u k past'
  stops_then (Refused c) q h =
      let same : h.uses.0 ≡ h.answer.0 = same_answers past h.uses.0 h.answer.0 (sym h.uses.1 ∙ h.answer.1) in record {
        answer = (h.answer.0, h.answer.1, stopped_then host (run (seen w) s) go h.answer.0 c (seen u) k h.answer.2);
        uses = (
          h.answer.0,
          h.answer.1,
          h.uses.2 ∙ ap (λ xs. after_notes (notes_by host (run (seen w) s) xs) (uses_of w)) same
              ∙ ap (λ l. after_notes l (uses_of w)) (sym (notes_stopped host (run (seen w) s) go h.answer.0 c (seen u) k h.answer.2)),
        );
      }
  stops_then Storage q h =
      let more = notes_longer host (run (seen w) h.uses.2) go h.uses.0 in record {
        answer = (h.answer.0, h.answer.1, h.answer.2, h.answer.3, leaves_then host (run (seen w) h.answer.2) go h.answer.0 (seen u) h.answer.4 q);
        uses = (
          h.uses.0,
          h.uses.1,
          h.uses.2,
          h.uses.3,
          subst (λ l. MadeSome l (uses_of w) (uses_of u)) (sym more.1)
              (made_of_more (notes_by host (run (seen w) h.uses.2) h.uses.0) more.0 (uses_of w) (uses_of u) h.uses.4),
        );
      }

-- ---- one form

-- by runs that do the same from there
pub comes_as : {A B : Type 0} (host : Host) (run next : (A → Run) → Run) (run' next' : (B → Run) → Run) (f : (B → Run) → A → Run) (w u : World) (s k : ℕ)
    (past past' : List ℤ) → ((go : B → Run) (t : ℕ) → run (f go) (seen w) t ≡ run' go (seen w) t)
    → ((go : B → Run) (t : ℕ) → next (f go) (seen u) t ≡ next' go (seen u) t)
    → Comes host run next w s past u k past' → Comes host run' next' w s past u k past'
comes_as host run next run' next' f w u s k past past' e q h = record {
  taken = h.taken;
  answers = h.answers;
  notes = h.notes;
  steps = h.steps;
  heard = h.heard;
  kept = h.kept;
  same = λ go t more. ap (λ o. answered_by host o (h.answers ++ more)) (sym (e go (h.taken + t))) ∙ h.same (f go) t more
      ∙ ap (λ o. answered_by host o more) (q go t);
  noted = λ go t more. ap (λ o. notes_by host o (h.answers ++ more)) (sym (e go (h.taken + t))) ∙ h.noted (f go) t more
      ∙ ap (λ o. h.notes ++ notes_by host o more) (q go t);
}

module _ (host : Host) (f : Form) (n : ℕ) (w u : World) (s k : ℕ) (past past' : List ℤ) (room : n ≡ room_below (seen w)) where
  at_room : (go : Val → Run) (t : ℕ) → followed (evaluation n f) go (seen w) t ≡ evaluated f go (seen w) t
  at_room go t = ap (λ m. followed (evaluation m f) go (seen w) t) room

  pub stops : (stop : Stop) → Performs host (evaluation n f) w s past (Err stop) u k past' → EndsBefore host (evaluated f) w s past stop u k past'
  stops stop h = record {
    ends = λ go q.
        performs_as host (followed (evaluation n f) go) (evaluated f go) w u s k past past' (Err stop) (at_room go)
        (stops_then host (evaluation n f) go w u s k past past' stop q h);
  }

  pub gives : (v : Value) → GoesOn host (followed (evaluation n f)) w s past (value_of v) u k past'
      → GoesOn host (evaluated f) w s past (value_of v) u k past'
  gives v h =
      comes_as host (followed (evaluation n f)) (λ go. go (value_of v)) (evaluated f) (λ go. go (value_of v)) (λ go. go) w u s k past past' at_room
      (λ go t. refl) h

  pub form_stops : (stop : Stop) → Performs host (evaluation n f) w s past (Err stop) u k past'
      → EndsBefore host (form_evaluated (Some f)) w s past stop u k past'
  form_stops stop h = record {
    ends = λ go q.
        performs_as host (evaluated f (λ v. go (Some v))) (form_evaluated (Some f) go) w u s k past past' (Err stop) (λ i. refl)
        ((stops stop h).ends (λ v. go (Some v)) (λ v. q (Some v)));
  }

  pub form_gives : (v : Value) → GoesOn host (followed (evaluation n f)) w s past (value_of v) u k past'
      → GoesOn host (form_evaluated (Some f)) w s past (Some (value_of v)) u k past'
  form_gives v h =
      comes_as host (evaluated f) (λ go. go (value_of v)) (form_evaluated (Some f)) (λ go. go (Some (value_of v))) (λ go v. go (Some v)) w u s k past past'
      (λ go t. refl) (λ go t. refl) (gives v h)

-- ---- one after another

-- none of them yet
pub begins : {A : Type 0} (host : Host) (run : (A → Run) → Run) (w : World) (s : ℕ) (past : List ℤ) → Comes host run run w s past w s past
begins host run w s past = record {
  taken = 0;
  answers = [];
  notes = [];
  steps = omega arith;
  heard = sym (append-nil past);
  kept = refl;
  same = λ go t more. ap (λ i. answered_by host (run go (seen w) i) more) (omega arith);
  noted = λ go t more. ap (λ i. notes_by host (run go (seen w) i) more) (omega arith);
}

pub no_form : (host : Host) (w : World) (s : ℕ) (past : List ℤ) → GoesOn host (form_evaluated None) w s past None w s past
no_form host w s past =
    comes_as host (form_evaluated None) (form_evaluated None) (form_evaluated None) (λ go. go None) (λ go. go) w w s s past past (λ go t. refl)
    (λ go t. refl) (begins host (form_evaluated None) w s past)

pub not_begun : (host : Host) (o : Option Form) (w : World) (s : ℕ) (past : List ℤ) → EndsBefore host (form_evaluated o) w s past Storage w s past
not_begun host o w s past = record {
  ends = λ go q. performs_storage host (form_evaluated o go) w s past (form_quiet o go (seen w) refl q);
}

-- answers that came after others
later : (past past1 past2 first second : List ℤ) → past1 ≡ past ++ first → past2 ≡ past1 ++ second → past2 ≡ past ++ (first ++ second)
later past past1 past2 first second e h = h ∙ ap (λ xs. xs ++ second) e ∙ append_assoc past first second

module _ {A : Type 0} (host : Host) (run mid : (A → Run) → Run) (w0 w u : World) (s0 s k : ℕ) (past0 past past' : List ℤ)
    (h : Comes host run mid w0 s0 past0 w s past) where
  more_steps : (taken : ℕ) → s ≡ taken + k → s0 ≡ (h.taken + taken) + k
  more_steps taken e = h.steps ∙ ap (λ i. h.taken + i) e ∙ sym (add_assoc h.taken taken k)

  -- and then to the next
  pub comes_on : (next : (A → Run) → Run) → Comes host mid next w s past u k past' → Comes host run next w0 s0 past0 u k past'
  comes_on next g = record {
    taken = h.taken + g.taken;
    answers = h.answers ++ g.answers;
    notes = h.notes ++ g.notes;
    steps = more_steps g.taken g.steps;
    heard = later past0 past past' h.answers g.answers h.heard g.heard;
    kept = g.kept ∙ ap (after_notes g.notes) h.kept ∙ sym (after_more h.notes g.notes (uses_of w0));
    same = λ go t more.
        ap (λ i. answered_by host (run go (seen w0) i) ((h.answers ++ g.answers) ++ more)) (add_assoc h.taken g.taken t)
        ∙ ap (answered_by host (run go (seen w0) (h.taken + (g.taken + t)))) (append_assoc h.answers g.answers more)
        ∙ h.same go (g.taken + t) (g.answers ++ more) ∙ g.same go t more;
    noted = λ go t more.
        ap (λ i. notes_by host (run go (seen w0) i) ((h.answers ++ g.answers) ++ more)) (add_assoc h.taken g.taken t)
        ∙ ap (notes_by host (run go (seen w0) (h.taken + (g.taken + t)))) (append_assoc h.answers g.answers more)
        ∙ h.noted go (g.taken + t) (g.answers ++ more) ∙ ap (λ l. h.notes ++ l) (g.noted go t more)
        ∙ sym (append_assoc h.notes g.notes (notes_by host (next go (seen u) t) more));
  }

  -- and then what follows from there
  module _ (go : A → Run) where
    answered_from : (xs : List ℤ) → answered_by host (run go (seen w0) s0) (h.answers ++ xs) ≡ answered_by host (mid go (seen w) s) xs
    answered_from xs = ap (λ i. answered_by host (run go (seen w0) i) (h.answers ++ xs)) h.steps ∙ h.same go s xs

    kept_from : (xs : List ℤ) → after_notes (notes_by host (mid go (seen w) s) xs) (uses_of w)
        ≡ after_notes (notes_by host (run go (seen w0) s0) (h.answers ++ xs)) (uses_of w0)
    kept_from xs =
        ap (after_notes (notes_by host (mid go (seen w) s) xs)) h.kept ∙ sym (after_more h.notes (notes_by host (mid go (seen w) s) xs) (uses_of w0))
        ∙ ap (λ l. after_notes l (uses_of w0)) (sym (ap (λ i. notes_by host (run go (seen w0) i) (h.answers ++ xs)) h.steps ∙ h.noted go s xs))

    some_made : (t : ℕ) (xs : List ℤ) → MadeSome (notes_by host (mid go (seen w) t) xs) (uses_of w) (uses_of u)
        → MadeSome (notes_by host (run go (seen w0) (h.taken + t)) (h.answers ++ xs)) (uses_of w0) (uses_of u)
    some_made t xs x = record {
      made = h.notes ++ x.made;
      left = x.left;
      first = h.noted go t xs ∙ ap (λ l. h.notes ++ l) x.first ∙ sym (append_assoc h.notes x.made x.left);
      kept = subst (λ v. AtMostOneMore most v (uses_of u)) (ap (after_notes x.made) h.kept ∙ sym (after_more h.notes x.made (uses_of w0))) x.kept;
    }

    pub performs_after : (r : Result Value Stop) → Performs host (mid go) w s past r u k past' → Performs host (run go) w0 s0 past0 r u k past'
    performs_after (Ok v) g = record {
      answer = (h.answers ++ g.answer.0, later past0 past past' h.answers g.answer.0 h.heard g.answer.1, answered_from g.answer.0 ∙ g.answer.2);
      uses = (h.answers ++ g.uses.0, later past0 past past' h.answers g.uses.0 h.heard g.uses.1, g.uses.2 ∙ kept_from g.uses.0);
    }
    performs_after (Err (Refused c)) g = record {
      answer = (h.answers ++ g.answer.0, later past0 past past' h.answers g.answer.0 h.heard g.answer.1, answered_from g.answer.0 ∙ g.answer.2);
      uses = (h.answers ++ g.uses.0, later past0 past past' h.answers g.uses.0 h.heard g.uses.1, g.uses.2 ∙ kept_from g.uses.0);
    }
    performs_after (Err Storage) g = record {
      answer = (
        h.answers ++ g.answer.0,
        later past0 past past' h.answers g.answer.0 h.heard g.answer.1,
        h.taken + g.answer.2,
        more_steps g.answer.2 g.answer.3,
        (g.answer.4.0, h.same go g.answer.2 g.answer.0 ∙ g.answer.4.1, g.answer.4.2),
      );
      uses = (
        h.answers ++ g.uses.0,
        later past0 past past' h.answers g.uses.0 h.heard g.uses.1,
        h.taken + g.uses.2,
        more_steps g.uses.2 g.uses.3,
        some_made g.uses.2 g.uses.0 g.uses.4,
      );
    }

module _ (host : Host) (all : List (Option Form)) (w0 w u : World) (c : Option Form) (cs : List (Option Form)) (vs : List (Option Val))
    (s0 s k : ℕ) (past0 past past' : List ℤ) where
  one_form : (v : Option Val) → GoesOn host (form_evaluated c) w s past v u k past'
      → Comes host (forms_evaluated (c ∷ cs) vs) (forms_evaluated cs (vs ++ v ∷ [])) w s past u k past'
  one_form v g =
      comes_as host (form_evaluated c) (λ go. go v) (forms_evaluated (c ∷ cs) vs) (forms_evaluated cs (vs ++ v ∷ []))
      (λ go x. forms_evaluated cs (vs ++ x ∷ []) go) w u s k past past' (λ go t. refl) (λ go t. refl) g

  pub one_more : (v : Option Val) → Comes host (forms_evaluated all []) (forms_evaluated (c ∷ cs) vs) w0 s0 past0 w s past
      → GoesOn host (form_evaluated c) w s past v u k past'
      → Comes host (forms_evaluated all []) (forms_evaluated cs (vs ++ v ∷ [])) w0 s0 past0 u k past'
  one_more v h g =
      comes_on host (forms_evaluated all []) (forms_evaluated (c ∷ cs) vs) w0 w u s0 s k past0 past past' h (forms_evaluated cs (vs ++ v ∷ [])) (one_form v g)

  pub one_stops : (stop : Stop) → Comes host (forms_evaluated all []) (forms_evaluated (c ∷ cs) vs) w0 s0 past0 w s past
      → EndsBefore host (form_evaluated c) w s past stop u k past'
      → EndsBefore host (forms_evaluated all []) w0 s0 past0 stop u k past'
  one_stops stop h g = record {
    ends = λ go q.
        performs_after host (forms_evaluated all []) (forms_evaluated (c ∷ cs) vs) w0 w u s0 s k past0 past past' h go (Err stop)
        (performs_as host (form_evaluated c (λ x. forms_evaluated cs (vs ++ x ∷ []) go)) (forms_evaluated (c ∷ cs) vs go) w u s k past past' (Err stop)
        (λ i. refl) (g.ends (λ x. forms_evaluated cs (vs ++ x ∷ []) go) (λ x. forms_quiet cs (vs ++ x ∷ []) go (seen u) refl q)));
  }

-- memory ran out between two of them
pub between : (host : Host) (all cs : List (Option Form)) (vs : List (Option Val)) (w0 w : World) (s0 s : ℕ) (past0 past : List ℤ)
    → Comes host (forms_evaluated all []) (forms_evaluated cs vs) w0 s0 past0 w s past
    → EndsBefore host (forms_evaluated all []) w0 s0 past0 Storage w s past
between host all cs vs w0 w s0 s past0 past h = record {
  ends = λ go q.
      performs_after host (forms_evaluated all []) (forms_evaluated cs vs) w0 w w s0 s s past0 past past h go (Err Storage)
      (performs_storage host (forms_evaluated cs vs go) w s past (forms_quiet cs vs go (seen w) refl q));
}

-- none of them is left
pub all_evaluated : (host : Host) (all rest : List (Option Form)) (vs : List (Option Val)) (w0 u : World) (s0 k : ℕ) (past0 past : List ℤ)
    → length rest ≡ 0 → Comes host (forms_evaluated all []) (forms_evaluated rest vs) w0 s0 past0 u k past
    → GoesOn host (forms_evaluated all []) w0 s0 past0 vs u k past
all_evaluated host all [] vs w0 u s0 k past0 past e h =
    comes_as host (forms_evaluated all []) (forms_evaluated [] vs) (forms_evaluated all []) (λ go. go vs) (λ go. go) w0 u s0 k past0 past (λ go t. refl)
    (λ go t. refl) h
all_evaluated host all (c ∷ cs) vs w0 u s0 k past0 past e h = absurd (omega arith)

-- ---- and then what is made with their values, which changes nothing with no step left

module _ (host : Host) (gs : List (Option Form)) (made : List (Option Val) → Run)
    (quiet : (vs : List (Option Val)) (w : State) → leaves (made vs w 0) w 0) (w : World) (s : ℕ) (past : List ℤ) where
  pub forms_not_begun : Performs host (forms_evaluated gs [] made) w s past (Err Storage) w s past
  forms_not_begun =
      performs_storage host (forms_evaluated gs [] made) w s past (forms_quiet gs [] made (seen w) refl (λ vs. quiet vs (seen w)))

  module _ (fs : List (Option Form)) (same : fs ≡ gs) (u : World) (k : ℕ) (past' : List ℤ) where
    pub forms_stop : (stop : Stop) → EndsBefore host (forms_evaluated fs []) w s past stop u k past'
        → Performs host (forms_evaluated gs [] made) w s past (Err stop) u k past'
    forms_stop stop h =
        let g : EndsBefore host (forms_evaluated gs []) w s past stop u k past' =
        subst (λ l. EndsBefore host (forms_evaluated l []) w s past stop u k past') same h in g.ends made (λ vs. quiet vs (seen u))

    pub forms_go_on : (vs : List (Option Val)) (r : Result Value Stop) (x : World) (j : ℕ) → GoesOn host (forms_evaluated fs []) w s past vs u k past'
        → Performs host (made vs) u k past' r x j past' → Performs host (forms_evaluated gs [] made) w s past r x j past'
    forms_go_on vs r x j h g =
        performs_after host (forms_evaluated gs []) (λ go. go vs) w u x s k j past past' past'
        (subst (λ l. GoesOn host (forms_evaluated l []) w s past vs u k past') same h) made r g
