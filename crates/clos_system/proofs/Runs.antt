-- How the loop over the forms of a text makes a run, and what is told of a form.
use Rattle.std.proofs.Common.{◌≡◌, ℕ, ◌+◌, ◌-◌, ◌<◌, ◌≤◌, append-nil, List, [], ◌∷◌, ◌++◌, Option, Some, None, Result, Ok, Err, Bool, true, false, length, drop, refl, ap, sym, subst, ◌∙◌, arith, append_assoc, inl, inr}
use Rattle.std.specs.Prelude.{ℤ, IfErr, IfSome, if◌then◌else◌}
use Rattle.std.specs.Io.KnownBytes.{Appends}
use Rattle.lisp_data.specs.Datum.{Dat}
use Rattle.lisp_data.specs.Print.{text_of}
use Rattle.lisp_data.specs.Value.{Val}
use Rattle.lisp_data.specs.ValueView.{value_of}
use Rattle.lisp_data.specs.declared.value.Value.{Value}
use Rattle.lisp_reader.specs.Answers.{Next}
use Rattle.clos_session.specs.Session.{Standing}
use Rattle.clos_session.specs.clos_definition_forms.clos_effects.Hearing.{Heard, since}
use Rattle.clos_session.specs.clos_watch.Watching.{heard_after}
use Rattle.clos_session.specs.clos_machine.Machine.{AnswersWith}
use Rattle.clos_session.specs.clos_machine.Uses.{KeepsBy, MadeSome}
use Rattle.clos_session.specs.clos_machine.clos_meaning.Uses.{notes_by}
use Rattle.clos_session.specs.clos_world.clos_cache.Uses.{Uses}
use Rattle.clos_session.proofs.clos_machine.Uses.{same_answers}
use Rattle.clos_session.specs.clos_machine.clos_meaning.Host.{Host}
use Rattle.clos_session.specs.clos_machine.clos_meaning.Outcome.{Given, Signalled}
use Rattle.clos_session.specs.clos_perform.Step.{step}
use Rattle.clos_session.specs.clos_world.World.{State, names_of}
use Rattle.clos_transcript.specs.Told.{condition_text, ends_line, fresh_line, storage_text, told, told_for, with_written}
use Rattle.clos_system.specs.Transcript.{Ran, performs, cuts, counted_for, standing_after, uses_after, Stands, Performed, Performs, FailsAfter, Faults, RunFaults, SourceFails}
use Rattle.clos_session.specs.clos_world.declared.condition.Stop.{Stop}
use Rattle.clos_session.specs.clos_world.declared.condition.Stop.TheVariants.{Refused, Storage}
use Rattle.clos_system.specs.declared.transcript.Summary.{Summary}
use Rattle.clos_system.specs.declared.transcript.RunFault.{RunFault}
use Rattle.clos_system.specs.declared.transcript.RunFault.TheVariants.{Read, TooLong, Reader, Write, Memory}

-- with these answers after those that there were, what was heard, and what is kept
comes_to : (host : Host) (echo : Bool) (text : List ℕ) (start w w' : Standing) (used : List ℤ) (u : Uses) (at : ℕ) (out : List ℕ) (n : Summary)
    → w'.answers ≡ w.answers ++ used → Heard w.heard w.state w'.heard w'.state → w'.uses ≡ u
    → Ran host echo text start (standing_after w used w'.state u) at out n → Ran host echo text start w' at out n
comes_to host echo text start w w' used u at out n h k q r =
    subst (λ x. Ran host echo text start (record { state = w'.state; answers = w'.answers; heard = w'.heard; uses = x }) at out n) (sym q)
    (subst (λ l. Ran host echo text start (record { state = w'.state; answers = w'.answers; heard = l; uses = u }) at out n) (sym k)
    (subst (λ past. Ran host echo text start (record {
      state = w'.state;
      answers = past;
      heard = heard_after w.state.hearing.watching (since w.state w'.state) w.heard;
      uses = u;
    }) at out n) (sym h) r))

-- what is kept, with the answers that came
with_answers : (host : Host) (d : Dat) (w w' : Standing) (xs used : List ℤ) → w'.answers ≡ w.answers ++ xs → w'.answers ≡ w.answers ++ used
    → w'.uses ≡ uses_after host d w xs → w'.uses ≡ uses_after host d w used
with_answers host d w w' xs used e h q = q ∙ ap (uses_after host d w) (same_answers w.answers xs used (sym e ∙ h))

-- the run goes on by a form
pub ran_on : (host : Host) (echo : Bool) (text : List ℕ) (start w : Standing) (at : ℕ) (out : List ℕ) (n : Summary) (d : Dat) (next : ℕ)
    (answer : Result Value Stop) (w' : Standing) (left : ℕ)
    → Ran host echo text start w at out n → Next (drop at text) d (drop next text) → AnswersWith host (step d) w.state w.state.limits.steps
    w.answers answer w'.state left w'.answers
    → KeepsBy host (step d) w.state w.state.limits.steps w.answers w.uses answer left w'.answers w'.uses
    → Heard w.heard w.state w'.heard w'.state
    → Ran host echo text start w' next (told_for echo w.state w'.state answer (w.state.limits.steps - left) out) (counted_for answer n)
ran_on host echo text start w at out n d next (Ok v) w' left r h a b k =
    comes_to host echo text start w w' a.0 (uses_after host d w a.0) next _ _ a.1 k (with_answers host d w w' b.0 a.0 b.1 a.1 b.2)
    (performs w at out n d next a.0 (Given (value_of v) w'.state left) r h a.2)
ran_on host echo text start w at out n d next (Err (Refused c)) w' left r h a b k =
    comes_to host echo text start w w' a.0 (uses_after host d w a.0) next _ _ a.1 k (with_answers host d w w' b.0 a.0 b.1 a.1 b.2)
    (performs w at out n d next a.0 (Signalled c w'.state left) r h a.2)
ran_on host echo text start w at out n d next (Err Storage) w' left r h a b k =
    let taken : w.state.limits.steps - left ≡ a.2 = omega (arith, a.3) in
    let steps : b.2 ≡ a.2 = omega (arith, a.3, b.3) in
    let made : MadeSome (notes_by host (step d w.state a.2) a.0) w.uses w'.uses =
    subst (λ xs. MadeSome (notes_by host (step d w.state a.2) xs) w.uses w'.uses) (same_answers w.answers b.0 a.0 (sym b.1 ∙ a.1))
    (subst (λ j. MadeSome (notes_by host (step d w.state j) b.0) w.uses w'.uses) steps b.4) in
    subst (λ j. Ran host echo text start w' next (told_for echo w.state w'.state (Err Storage) j out) (counted_for (Err Storage) n))
    (sym taken)
    (comes_to host echo text start w w' a.0 w'.uses next _ _ a.1 k refl (cuts w at out n d next a.2 a.0 w'.state w'.uses r h
    (omega (arith, a.3)) a.4 made))

-- what was written twice
pub appends_more : (a b c : Option (List ℕ)) (xs ys : List ℕ) → Appends a b xs → Appends b c ys → Appends a c (xs ++ ys)
appends_more None b c xs ys p q = tt
appends_more (Some u) None c xs ys p q = absurd p
appends_more (Some u) (Some v) None xs ys p q = absurd q
appends_more (Some u) (Some v) (Some z) xs ys p q = q ∙ ap (λ l. l ++ ys) p ∙ append_assoc u xs ys

pub appends_none : (a : Option (List ℕ)) → Appends a a []
appends_none None = tt
appends_none (Some u) = sym (append-nil u)

-- the loop goes on by a form
pub stands_on : (host now next_host : Host) (echo : Bool) (text : List ℕ) (start w w' : Standing) (a b c : Option (List ℕ)) (at next : ℕ)
    (n n' : Summary) (fresh fresh' : Bool) (d : Dat)
    → Stands host now echo text start w a b at n fresh → next_host ≡ now → Next (drop at text) d (drop next text) → at < next
    → next ≤ length text
    → Performs now echo d w w' b c n n' fresh fresh' → n'.conditions ≤ n'.forms → n'.storages ≤ n'.forms → n'.forms ≡ n.forms + 1
    → Stands host next_host echo text start w' a c next n' fresh'
stands_on host now next_host echo text start w w' a b c at next n n' fresh fresh' d s q h lt le p x y z =
    let answers : AnswersWith host (step d) w.state w.state.limits.steps w.answers p.answer w'.state p.left w'.answers =
    subst (λ o. AnswersWith o (step d) w.state w.state.limits.steps w.answers p.answer w'.state p.left w'.answers) s.stays p.answers in
    let uses : KeepsBy host (step d) w.state w.state.limits.steps w.answers w.uses p.answer p.left w'.answers w'.uses =
    subst (λ o. KeepsBy o (step d) w.state w.state.limits.steps w.answers w.uses p.answer p.left w'.answers w'.uses) s.stays p.uses in
    let more : Ran host echo text start w' next (s.come.out ++ p.piece) n' =
    subst (λ m. Ran host echo text start w' next (s.come.out ++ p.piece) m) (sym p.counts)
    (subst (λ o. Ran host echo text start w' next o (counted_for p.answer n)) (sym (p.tells s.come.out s.line))
    (ran_on host echo text start w at s.come.out n d next p.answer w' p.left s.come.ran h answers uses p.heard)) in
    record {
      stays = q ∙ s.stays;
      come = record { out = s.come.out ++ p.piece; ran = more; appends = appends_more a b c s.come.out p.piece s.come.appends p.appends };
      within = le;
      line = p.line s.come.out s.line;
      forms = omega (arith, s.forms);
      conditions = x;
      storages = y;
    }

-- what is told of a form comes after what was written before it

abbrev Follows : List ℕ → List ℕ → Type 0
Follows out x = (rest : List ℕ) × (x ≡ out ++ rest)

longer : (out x ys : List ℕ) → Follows out x → Follows out (x ++ ys)
longer out x ys f = (f.0 ++ ys, ap (λ l. l ++ ys) f.1 ∙ append_assoc out f.0 ys)

fresh_follows : (b : Bool) (out x : List ℕ) → Follows out x → Follows out (if b then x else x ++ 10 ∷ [])
fresh_follows true out x f = f
fresh_follows false out x f = longer out x (10 ∷ []) f

line_follows : (w w' : State) (out : List ℕ) → Follows out (fresh_line (with_written w w' out))
line_follows w w' out = fresh_follows (ends_line (with_written w w' out)) out (with_written w w' out) (drop (length w.written) w'.written, refl)

value_follows : (echo : Bool) (w w' : State) (v : Val) (s : ℕ) (out : List ℕ) → Follows out (told echo w (Given v w' s) out)
value_follows true w w' v s out =
    let line : List ℕ = fresh_line (with_written w w' out) in
    let value : List ℕ = text_of true (names_of w') v in
    longer out (line ++ value) (10 ∷ []) (longer out line value (line_follows w w' out))
value_follows false w w' v s out = (drop (length w.written) w'.written, refl)

told_follows : (echo : Bool) (w w' : State) (r : Result Value Stop) (k : ℕ) (out : List ℕ) → Follows out (told_for echo w w' r k out)
told_follows echo w w' (Ok v) k out = value_follows echo w w' (value_of v) 0 out
told_follows echo w w' (Err (Refused c)) k out =
    longer out (fresh_line (with_written w w' out)) (condition_text (names_of w') c) (line_follows w w' out)
told_follows echo w w' (Err Storage) k out = longer out (fresh_line (with_written w w' out)) (storage_text k) (line_follows w w' out)

-- a form was performed, and then memory or the writer failed
module _ (host now : Host) (echo : Bool) (text : List ℕ) (start w w' : Standing) (a b c : Option (List ℕ)) (at next : ℕ) (n : Summary)
    (fresh : Bool) (d : Dat) where
  ran_after : (s : Stands host now echo text start w a b at n fresh) → Next (drop at text) d (drop next text) → (p : Performed now d w w')
      → Ran host echo text start w' next (told_for echo w.state w'.state p.answer (w.state.limits.steps - p.left) s.come.out)
      (counted_for p.answer n)
  ran_after s h p =
      ran_on host echo text start w at s.come.out n d next p.answer w' p.left s.come.ran h
      (subst (λ o. AnswersWith o (step d) w.state w.state.limits.steps w.answers p.answer w'.state p.left w'.answers) s.stays p.answers)
      (subst (λ o. KeepsBy o (step d) w.state w.state.limits.steps w.answers w.uses p.answer p.left w'.answers w'.uses) s.stays p.uses) p.heard

  pub fails_after : (e : RunFault) → Stands host now echo text start w a b at n fresh → Next (drop at text) d (drop next text)
      → FailsAfter now d w w' b c e → Faults host echo text start w' a c e
  fails_after Write s h p = (
    next,
    counted_for p.answer n,
    told_for echo w.state w'.state p.answer (w.state.limits.steps - p.left)
        s.come.out,
    ran_after s h p,
  )
  fails_after Memory s h p =
      let more = told_follows echo w.state w'.state p.0.answer (w.state.limits.steps - p.0.left) s.come.out in (
        next,
        counted_for p.0.answer n,
        s.come.out,
        more.0,
        subst (λ out. Ran host echo text start w' next out (counted_for p.0.answer n)) more.1 (ran_after s h p.0),
        subst (λ x. Appends a x s.come.out) (sym p.1) s.come.appends,
      )
  fails_after Read s h p = absurd p
  fails_after TooLong s h p = absurd p
  fails_after (Reader f) s h p = absurd p

-- .. and before either failed
pub performed_before : (host : Host) (d : Dat) (w w' : Standing) (old new : Option (List ℕ)) (e : RunFault) → FailsAfter host d w w' old new e
    → Performed host d w w'
performed_before host d w w' old new Write p = p
performed_before host d w w' old new Memory p = p.0
performed_before host d w w' old new Read p = absurd p
performed_before host d w w' old new TooLong p = absurd p
performed_before host d w w' old new (Reader f) p = absurd p

-- no memory for what comes next
pub fails_between : (host now : Host) (echo : Bool) (text : List ℕ) (start w : Standing) (a b : Option (List ℕ)) (at : ℕ) (n : Summary)
    (fresh : Bool) → Stands host now echo text start w a b at n fresh → Faults host echo text start w a b Memory
fails_between host now echo text start w a b at n fresh s = (
  at,
  n,
  s.come.out,
  [],
  subst (λ out. Ran host echo text start w at out n) (sym (append-nil s.come.out)) s.come.ran,
  s.come.appends,
)

-- the source could not be had, and no form ran
pub source_fails : (host : Host) (echo : Bool) (known : Option (List ℕ)) (s : Standing) (new : Option (List ℕ)) (e : RunFault)
    → SourceFails known e → RunFaults host echo known s s new new e
source_fails host echo known s new Read h = (refl, refl)
source_fails host echo known s new TooLong h = (refl, refl, h)
source_fails host echo known s new (Reader f) h = absurd h
source_fails host echo known s new Write h = absurd h
source_fails host echo known s new Memory h = inl (refl, refl)

-- the text was had, and its run ended with a fault
pub text_faults : (host : Host) (echo : Bool) (known : Option (List ℕ)) (text source : List ℕ) (start end : Standing)
    (old new : Option (List ℕ)) (r : Result Summary RunFault) → text ≡ source
    → length source ≤ 16_777_216 → IfSome known (λ had. source ≡ had) → IfErr r (Faults host echo text start end old new)
    → IfErr r (RunFaults host echo known start end old new)
text_faults host echo known text source start end old new (Ok n) q l h f = tt
text_faults host echo known text source start end old new (Err Read) q l h f = absurd f
text_faults host echo known text source start end old new (Err TooLong) q l h f = absurd f
text_faults host echo known text source start end old new (Err (Reader e)) q l h f =
    (source, l, h, subst (λ t. Faults host echo t start end old new (Reader e)) q f)
text_faults host echo known text source start end old new (Err Write) q l h f =
    (source, l, h, subst (λ t. Faults host echo t start end old new Write) q f)
text_faults host echo known text source start end old new (Err Memory) q l h f =
    inr (source, l, h, subst (λ t. Faults host echo t start end old new Memory) q f)
