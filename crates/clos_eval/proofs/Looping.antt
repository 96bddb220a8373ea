-- How the loop of the machine goes on from what comes next, and how it ends.
use Rattle.std.specs.Prelude.{ℤ}
use Rattle.std.proofs.Common.{◌≡◌, ℕ, ◌+◌, List, [], ◌∷◌, ◌++◌, Some, Result, Ok, Err, ap, append-nil, arith, refl, subst, sym, ◌∙◌}
use Rattle.lisp_data.specs.ValueView.{value_of}
use Rattle.clos_forms.specs.Form.{Form}
use Rattle.lisp_data.specs.declared.value.Value.{Value}
use Rattle.clos_machine.specs.clos_world.Uses.{uses_of}
use Rattle.clos_machine.specs.clos_world.World.{State, seen, unbound}
use Rattle.clos_machine.specs.clos_world.declared.condition.Stop.{Stop}
use Rattle.clos_machine.specs.clos_world.declared.tables.World.{World}
use Rattle.clos_machine.specs.Machine.{Asks, Leads, Reached, Turns, at, denote, given_to, resume}
use Rattle.clos_machine.specs.Uses.{Made, Notes, TurnsBy}
use Rattle.clos_machine.specs.clos_meaning.Contexts.{known}
use Rattle.clos_machine.specs.clos_meaning.Host.{Host, answered_by}
use Rattle.clos_machine.specs.clos_meaning.Meaning.{closed, evaluation}
use Rattle.clos_machine.specs.clos_meaning.Outcome.{Gave, Given, Run}
use Rattle.clos_machine.specs.clos_meaning.Uses.{notes_by}
use Rattle.clos_machine.specs.declared.machine.Doing.{Doing}
use Rattle.clos_machine.specs.declared.machine.Doing.TheVariants.{Give, Start}
use Rattle.clos_machine.specs.declared.machine.Level.{Level}
use Rattle.clos_machine.specs.declared.machine.Machine.{Machine}
use Rattle.clos_machine.proofs.Quiet.{doing_quiet}
use Rattle.clos_machine.proofs.Runs.{ended, popped, reached_now, reached_on, turns_of_leads}
use Rattle.clos_machine.proofs.Turns.{leads_same}
use Rattle.clos_machine.proofs.Uses.{all_notes, made_ended, made_finished, made_on, notes_then, same_answers, turns_by_ask, turns_by_note, turns_none}
use Rattle.clos_machine.proofs.Answering.{answered_then}
use Rattle.clos_eval.specs.Evaluation.{GoesOn, Performs, followed}

-- What the handler of what comes next did: what the host's functions answered, and the uses that were made.
pub record Did (host : Host) (m : Machine) (d : Doing) (world : World) (s : ℕ) (past : List ℤ) (came : Result Doing Stop) (n : Machine)
    (world' : World) (s' : ℕ) (past' : List ℤ) : Type 0 where
  pub asks : Asks host (denote m d) (seen world) s past came n (seen world') s' past'
  pub notes : Notes host (denote m d) (seen world) s past (uses_of world) came n (seen world') s' past' (uses_of world')

-- the same, where this is known to be what comes next, and what came of it to be so
pub did : (host : Host) (m : Machine) (d : Doing) (world : World) (s : ℕ) (past : List ℤ) {r came : Result Doing Stop} {n n' : Machine}
    {v v' : World} {k k' : ℕ} {bs bs' : List ℤ} (e : Doing)
    → d ≡ e → came ≡ r → n' ≡ n → v' ≡ v → k' ≡ k → bs' ≡ bs → Did host m e world s past r n v k bs → Did host m d world s past
    came n' v' k' bs'
did host m d world s past {r} {came} {n} {n'} {v} {v'} {k} {k'} {bs} {bs'} e h a b c g q t =
    subst (λ x. Did host m x world s past came n' v' k' bs') (sym h)
    (subst (λ x. Did host m e world s past x n' v' k' bs') (sym a)
    (subst (λ x. Did host m e world s past r x v' k' bs') (sym b)
    (subst (λ x. Did host m e world s past r n x k' bs') (sym c)
    (subst (λ x. Did host m e world s past r n v x bs') (sym g) (subst (λ x. Did host m e world s past r n v k x) (sym q) t)))))

-- the same where no function of the host's was called
pub turned : (host : Host) (m : Machine) (d : Doing) (world : World) (s : ℕ) (past : List ℤ) {r came : Result Doing Stop} {n n' : Machine}
    {v v' : World} {k k' : ℕ} {bs' : List ℤ} (e : Doing)
    → d ≡ e → came ≡ r → n' ≡ n → v' ≡ v → k' ≡ k → bs' ≡ past
    → TurnsBy (denote m e) (seen world) s (uses_of world) r n (seen v) k (uses_of v) → Did host m d world s past came n' v' k' bs'
turned host m d world s past {r} {came} {n} {n'} {v} {v'} {k} {k'} e h a b c g q t = did host m d world s past e h a b c g q (record {
  asks = turns_by_ask host (denote m e) (seen world) s past (uses_of world) (uses_of v) r n (seen v) k t;
  notes = turns_by_note host (denote m e) (seen world) s past (uses_of world) (uses_of v) r n (seen v) k t;
})

-- .. and no use was made
pub went : (host : Host) (m : Machine) (d : Doing) (world : World) (s : ℕ) (past : List ℤ) {r came : Result Doing Stop} {n n' : Machine}
    {v' : World} {k k' : ℕ} {bs' : List ℤ} (e : Doing)
    → d ≡ e → came ≡ r → n' ≡ n → v' ≡ world → k' ≡ k → bs' ≡ past → Turns (denote m e) (seen world) s r n (seen world) k
    → Did host m d world s past came n' v' k' bs'
went host m d world s past {r} {came} {n} {n'} {v'} {k} {k'} e h a b c g q t = turned host m d world s past e h a b c g q
    (turns_none (denote m e) (seen world) s (uses_of world) (uses_of world) r n (seen world) k refl t)

-- a value is given to the top level: what its frame did, without the level
pub gave : (m : Machine) (w : State) (s : ℕ) (v : Value) (l : Level) (ls : List Level) → m.levels ≡ l ∷ ls → (r : Result Doing Stop) (n : Machine)
    → Leads (given_to (record { levels = ls; context = m.context; locals = m.locals; room = l.room }) l.frame (value_of v)) w r n → Turns (denote m (Give v)) w s r n w s
gave m w s v l ls k r n t =
    let taken : Run = given_to (record { levels = ls; context = m.context; locals = m.locals; room = l.room }) l.frame (value_of v) in
    turns_of_leads (denote m (Give v)) w s r n (leads_same taken (denote m (Give v)) w r n (λ j. popped m l ls v w j k) t)

-- The run has come to what comes next: by the answers of the host's functions, and by the uses that were made.
pub record Came (host : Host) (run : Run) (start : World) (s0 : ℕ) (past0 : List ℤ) (m : Machine) (d : Doing) (world : World) (s : ℕ)
    (past : List ℤ) : Type 0 where
  pub reached : Reached host run (seen start) s0 past0 (denote m d) (seen world) s past
  pub made : Made host run (seen start) s0 past0 (uses_of start) (denote m d) (seen world) s past (uses_of world)

module _ (host : Host) (run : Run) (start : World) (s0 : ℕ) (past0 : List ℤ) (m : Machine) (d : Doing) (world : World) (s : ℕ) (past : List ℤ)
    (r : Came host run start s0 past0 m d world s past) (came : Result Doing Stop) (n : Machine) (world' : World) (s' : ℕ) (past' : List ℤ)
    (t : Did host m d world s past came n world' s' past') where
  pub goes_on : (next : Doing) → came ≡ Ok next → Came host run start s0 past0 n next world' s' past'
  goes_on next h = record {
    reached = reached_on host run (seen start) s0 past0 (denote m d) (seen world) s past next n (seen world') s' past' r.reached
        (subst (λ x. Asks host (denote m d) (seen world) s past x n (seen world') s' past') h t.asks);
    made = made_on host run (seen start) s0 past0 (uses_of start) (denote m d) (seen world) s past (uses_of world) r.made next n (seen world') s'
        past' (uses_of world') (subst (λ x. Notes host (denote m d) (seen world) s past (uses_of world) x n (seen world') s' past' (uses_of world')) h t.notes);
  }

  pub stops : (stop : Stop) → came ≡ Err stop → Performs host run start s0 past0 (Err stop) world' s' past'
  stops stop h = record {
    answer = ended host run (seen start) s0 past0 (denote m d) (seen world) s past stop n (seen world') s' past' (doing_quiet m d (seen world)) r.reached
        (subst (λ x. Asks host (denote m d) (seen world) s past x n (seen world') s' past') h t.asks);
    uses = made_ended host run (seen start) s0 past0 (uses_of start) (denote m d) (seen world) s past (uses_of world) r.made stop n (seen world') s'
        past' (uses_of world') (subst (λ x. Notes host (denote m d) (seen world) s past (uses_of world) x n (seen world') s' past' (uses_of world')) h t.notes);
  }

-- a form begins by itself
pub begun : (host : Host) (f : Form) (room : ℕ) (m : Machine) (world : World) (s : ℕ) (past : List ℤ)
    → m ≡ record { levels = []; context = known []; locals = []; room = room }
    → Came host (evaluation room f) world s past m (Start f) world s past
begun host f room m world s past e =
    subst (λ x. Came host (evaluation room f) world s past x (Start f) world s past) (sym e)
    (record {
      reached = record {
        taken = 0;
        used = [];
        steps = sym (omega arith);
        answers = sym (append-nil past);
        same = λ t more. ap (λ k. answered_by host (evaluation room f (seen world) k) more) (sym (omega arith));
      };
      made = record {
        taken = 0;
        answers = [];
        notes = [];
        steps = sym (omega arith);
        heard = sym (append-nil past);
        same = λ t more. ap (λ k. notes_by host (evaluation room f (seen world) k) more) (omega arith);
        kept = refl;
      };
    })

-- a value is given, and no level waits for it
module _ (host : Host) (run : Run) (start : World) (s0 : ℕ) (past0 : List ℤ) (m : Machine) (d : Doing) (world : World) (s : ℕ) (past : List ℤ)
    (r : Came host run start s0 past0 m d world s past) (v : Value) (e : d ≡ Give v) (h : m.levels ≡ []) where
  given_last : unbound (seen world) ≡ seen world → (t : ℕ) → answered_by host (run (seen start) (r.reached.taken + t)) r.reached.used ≡ Some (Given (value_of v) (seen world) t)
  given_last q t =
      reached_now host run (seen start) s0 past0 (denote m d) (seen world) s past r.reached t ∙ ap (λ x. answered_by host (denote m x (seen world) t) []) e
      ∙ ap (λ ls. answered_by host (closed (resume ls m.context (Gave (value_of v) (at m (seen world)) t))) []) h
      ∙ ap (λ u. Some (Given (value_of v) u t)) q

  nothing_noted : (t : ℕ) → notes_by host (denote m d (seen world) t) [] ≡ []
  nothing_noted t =
      ap (λ x. notes_by host (denote m x (seen world) t) []) e
      ∙ ap (λ ls. notes_by host (closed (resume ls m.context (Gave (value_of v) (at m (seen world)) t))) []) h

  pub finished : unbound (seen world) ≡ seen world → Performs host run start s0 past0 (Ok v) world s past
  finished q = record {
    answer = (r.reached.used, r.reached.answers, ap (λ k. answered_by host (run (seen start) k) r.reached.used) r.reached.steps ∙ given_last q s);
    uses = made_finished host run (seen start) s0 past0 (uses_of start) (denote m d) (seen world) s past (uses_of world) r.made v (nothing_noted s);
  }

  -- by the same steps and answers
  noted_last : (t : ℕ) → notes_by host (run (seen start) (r.reached.taken + t)) r.reached.used ≡ r.made.notes
  noted_last t =
      let steps : r.reached.taken ≡ r.made.taken = omega (arith, r.made.steps, r.reached.steps) in
      let answers : r.reached.used ≡ r.made.answers = same_answers past0 r.reached.used r.made.answers (sym r.reached.answers ∙ r.made.heard) in
      ap (λ k. notes_by host (run (seen start) (k + t)) r.reached.used) steps ∙ ap (notes_by host (run (seen start) (r.made.taken + t))) answers
      ∙ all_notes host run (seen start) s0 past0 (uses_of start) (denote m d) (seen world) s past (uses_of world) r.made t
      ∙ ap (λ l. r.made.notes ++ l) (nothing_noted t) ∙ append-nil r.made.notes

  pub finished_after : unbound (seen world) ≡ seen world → GoesOn host (followed run) start s0 past0 (value_of v) world s past
  finished_after q = record {
    taken = r.reached.taken;
    answers = r.reached.used;
    notes = r.made.notes;
    steps = r.reached.steps;
    heard = r.reached.answers;
    kept = r.made.kept;
    same = λ go t more. answered_then host (run (seen start) (r.reached.taken + t)) go r.reached.used more (value_of v) (seen world) t (given_last q t);
    noted = λ go t more.
        notes_then host (run (seen start) (r.reached.taken + t)) go r.reached.used more (value_of v) (seen world) t (given_last q t)
        ∙ ap (λ l. l ++ notes_by host (go (value_of v) (seen world) t) more) (noted_last t);
  }
