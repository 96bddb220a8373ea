-- How a session at a prompt goes on from line to line.
use Rattle.std.proofs.Common.{◌≡◌, ◌≢◌, ◌∙◌, ℕ, ◌<◌, Bool, List, [], ◌∷◌, ◌++◌, Option, Some, None, Result, Ok, Err, true, false, length, take, drop, refl, sym, subst}
use Rattle.std.specs.Prelude.{IfErr, IfSome}
use Rattle.std.specs.Io.BufRead.{take_through}
use Rattle.std.specs.Io.KnownBytes.{Appends, Keeps}
use Rattle.std.proofs.KnownBytes.{Appends-nil, Appends-trans, Keeps-refl}
use Rattle.lisp_data.specs.Datum.{Dat}
use Rattle.lisp_reader.specs.Answers.{Gives, a_fault}
use Rattle.lisp_tokens.specs.Fault.{Kind, end_inside, OnFault, stray_close, bad_token, bad_dot, bad_hash, too_deep, not_text}
use Rattle.lisp_tokens.specs.declared.fault.ReadFault.{ReadFault}
use Rattle.lisp_tokens.specs.declared.fault.ReadFault.TheVariants.{EndInside, StrayClose, BadToken, BadDot, BadHash, TooDeep, NotText, Memory}
use Rattle.clos_commentary.specs.clos_system.Transcript as Transcript
use Rattle.clos_commentary.specs.clos_system.Transcript.{FailsAfter, Performed, Performs, Ran, begins, none_yet}
use Rattle.clos_commentary.specs.clos_system.clos_session.Session.{Standing}
use Rattle.clos_commentary.specs.clos_system.clos_session.clos_machine.clos_meaning.Host.{Host}
use Rattle.clos_commentary.specs.clos_system.declared.transcript.RunFault.{RunFault}
use Rattle.clos_commentary.specs.clos_system.declared.transcript.RunFault.TheVariants as Run
use Rattle.clos_commentary.specs.clos_system.declared.transcript.Summary.{Summary}
use Rattle.clos_prompt.specs.Command.{Asks, AsksNone}
use Rattle.clos_commentary.specs.Fault.{fault_text}
use Rattle.clos_commentary.specs.Forms.{Leaves}
use Rattle.clos_commentary.specs.Place.{place_after}
use Rattle.clos_prompt.specs.Prompt as Prompt
use Rattle.clos_prompt.specs.Prompt.{Answers, Begun, Breaks, Comes, Ends, GoesOn, Prompted, answers, closes, commands, gives_up, of_arguments, of_forms, opens, performs, begins as first}
use Rattle.clos_prompt.specs.Waiting.{Waiting, at_first, cleared, exit_status, farewell, given_up, left_open, passed, prompt_of, takes_command}
use Rattle.clos_commentary.specs.declared.forms.Left.{Left}
use Rattle.clos_commentary.specs.declared.forms.Left.TheVariants.{Nothing, Open, Unread}
use Rattle.clos_prompt.specs.inner.Loop.{AnswerWritten, Stands, TakesLine}
use Rattle.clos_prompt.proofs.Lines.{all_came, comes_on, next_one, one_taken}

-- nothing is left
pub nothing_left_told : (p r : Waiting) (text : List ℕ) (n : Summary) (left : Left) (a : Option (List ℕ)) → left ≡ Nothing
    → r ≡ cleared p text n → (piece : List ℕ) × Appends a a piece × ((at : ℕ) → Leaves text at left → GoesOn p text n at r piece)
nothing_left_told p r text n left a is after =
    ([], Appends-nil a, λ at l. subst (λ x. GoesOn p text n at x []) (sym after) (closes (subst (Leaves text at) is l)))

-- a datum or comment is open
pub open_left_told : (p r : Waiting) (text : List ℕ) (n : Summary) (left : Left) (k : ℕ) (a : Option (List ℕ)) → left ≡ Open k
    → r ≡ left_open p text n k → (piece : List ℕ) × Appends a a piece × ((at : ℕ) → Leaves text at left → GoesOn p text n at r piece)
open_left_told p r text n left k a is after = (
  [],
  Appends-nil a,
  λ at l. let h : Leaves text at (Open k) = subst (Leaves text at) is l in
      subst (λ x. GoesOn p text n at x []) (sym after) (opens k h.1),
)

-- what can't be read was told
module _ (p r : Waiting) (text : List ℕ) (n : Summary) (k : ℕ) (old new : Option (List ℕ)) (after : r ≡ given_up p text n) where
  abbrev told : Kind → List ℕ
  told kind = fault_text kind (place_after p.place (take k text))

  abbrev Told : ReadFault → Type 0
  Told fault = (piece : List ℕ) × Appends old new piece × ((at : ℕ) → Leaves text at (Unread fault k) → GoesOn p text n at r piece)

  as_told : (kind : Kind) (at : ℕ) → kind ≢ end_inside → Gives (drop at text) (a_fault kind (drop k text)) → GoesOn p text n at r (told kind)
  as_told kind at other gives = subst (λ x. GoesOn p text n at x (told kind)) (sym after) (gives_up kind k other gives)

  pub unread_told : (fault : ReadFault) → ((at : ℕ) × Leaves text at (Unread fault k)) → OnFault fault (λ kind _. Appends old new (told kind))
      → Told fault
  unread_told (EndInside m) w a = absurd (w.1.1.0 refl)
  unread_told (StrayClose m) w a = (told stray_close, a, λ at l. as_told stray_close at l.1.0 l.1.1)
  unread_told (BadToken m) w a = (told bad_token, a, λ at l. as_told bad_token at l.1.0 l.1.1)
  unread_told (BadDot m) w a = (told bad_dot, a, λ at l. as_told bad_dot at l.1.0 l.1.1)
  unread_told (BadHash m) w a = (told bad_hash, a, λ at l. as_told bad_hash at l.1.0 l.1.1)
  unread_told (TooDeep m) w a = (told too_deep, a, λ at l. as_told too_deep at l.1.0 l.1.1)
  unread_told (NotText m) w a = (told not_text, a, λ at l. as_told not_text at l.1.0 l.1.1)
  unread_told Memory w a = absurd w.1.1

pub unread_left_told : (p r : Waiting) (text : List ℕ) (n : Summary) (left : Left) (fault : ReadFault) (k : ℕ) (a b : Option (List ℕ))
    → left ≡ Unread fault k → r ≡ given_up p text n → ((at : ℕ) × Leaves text at left)
    → OnFault fault (λ kind _. Appends a b (fault_text kind (place_after p.place (take k text))))
    → (piece : List ℕ) × Appends a b piece × ((at : ℕ) → Leaves text at left → GoesOn p text n at r piece)
unread_left_told p r text n left fault k a b is after some written =
    let t = unread_told p r text n k a b after fault (some.0, subst (Leaves text some.0) is some.1) written in
    (t.0, t.1, λ at l. t.2 at (subst (Leaves text at) is l))

-- no form of a text was performed
pub none_ran : (host : Host) (w : Standing) (p : Waiting) (line : List ℕ) → Begun host w p line w
none_ran host w p line = of_forms w 0 [] none_yet begins

-- a line was answered that is no command
pub answered : (host : Host) (w w' : Standing) (p p' : Waiting) (line text : List ℕ) (a b c : Option (List ℕ)) (at : ℕ) (n : Summary) (left : Left)
    → takes_command p line ≡ false → text ≡ p.pending ++ line → Transcript.Comes host true text w w' a b at n → Leaves text at left
    → ((piece : List ℕ) × Appends b c piece × ((at : ℕ) → Leaves text at left → GoesOn p text n at p' piece))
    → AnswerWritten host w w' p line a c p'
answered host w w' p p' line text a b c at n left other e come l g = (
  come.out ++ g.0,
  Appends-trans a b c come.out g.0 come.appends g.1,
  performs w' at come.out n p' g.0 other (subst (λ t. Ran host true t w w' at come.out n) e come.ran)
      (subst (λ t. GoesOn p t n at p' g.0) e (g.2 at l)),
)

-- .. or its forms were performed, and then memory or the writer failed
pub stops_at : (host : Host) (w w' : Standing) (p : Waiting) (line text : List ℕ) → text ≡ p.pending ++ line
    → ((at : ℕ) × (out : List ℕ) × (n : Summary) × Ran host true text w w' at out n) → Begun host w p line w'
stops_at host w w' p line text e r = of_forms w' r.0 r.1 r.2 (subst (λ t. Ran host true t w w' r.0 r.1 r.2) e r.3)

-- a command was answered
pub commanded : (host : Host) (w : Standing) (p p' : Waiting) (line page : List ℕ) (a b : Option (List ℕ)) → takes_command p line ≡ true
    → AsksNone w.state line → Appends a b page → p' ≡ passed p line → AnswerWritten host w w p line a b p'
commanded host w p p' line page a b is none written after =
    (page, written, subst (λ x. Answers host w p line w x page) (sym after) (commands page is none))

-- .. whose arguments were evaluated, and what is told of that was written, and then a page
pub asked : (host : Host) (d : Dat) (w w' : Standing) (p p' : Waiting) (line : List ℕ) (a b c : Option (List ℕ)) (n : Summary) (fresh : Bool)
    → takes_command p line ≡ true → Asks w.state line d → Performs host false d w w' a b none_yet n true fresh
    → ((page : List ℕ) × Appends b c page) → p' ≡ cleared p line n → AnswerWritten host w w' p line a c p'
asked host d w w' p p' line a b c n fresh is asks done shown after = (
  done.piece ++ shown.0,
  Appends-trans a b c done.piece shown.0 done.appends shown.1,
  subst (λ x. Answers host w p line w' x (done.piece ++ shown.0)) (sym after) (Prompt.asks d w' done.piece shown.0 n fresh is asks alone),
)
  where
    alone : Performs host false d w w' (Some []) (Some done.piece) none_yet n true fresh
    alone = record {
      answer = done.answer;
      left = done.left;
      answers = done.answers;
      uses = done.uses;
      heard = done.heard;
      counts = done.counts;
      piece = done.piece;
      appends = refl;
      tells = done.tells;
      line = done.line;
    }

-- .. or after the evaluation memory or the writer failed
pub asked_for : (host : Host) (d : Dat) (w w' : Standing) (p : Waiting) (line : List ℕ) (a b : Option (List ℕ)) (n : Summary) (fresh : Bool)
    → takes_command p line ≡ true → Asks w.state line d → Performs host false d w w' a b none_yet n true fresh → Begun host w p line w'
asked_for host d w w' p line a b n fresh is asks done = of_arguments d w' is asks (record {
  answer = done.answer;
  left = done.left;
  answers = done.answers;
  uses = done.uses;
  heard = done.heard;
})

-- .. also where it was not told
pub failed_in : (host : Host) (d : Dat) (w w' : Standing) (p : Waiting) (line : List ℕ) (a b : Option (List ℕ)) (e : RunFault)
    → takes_command p line ≡ true
    → Asks w.state line d → FailsAfter host d w w' a b e → Begun host w p line w'
failed_in host d w w' p line a b Run.Write is asks done = of_arguments d w' is asks done
failed_in host d w w' p line a b Run.Memory is asks done = of_arguments d w' is asks done.0
failed_in host d w w' p line a b Run.Read is asks done = absurd done
failed_in host d w w' p line a b Run.TooLong is asks done = absurd done
failed_in host d w w' p line a b (Run.Reader fault) is asks done = absurd done

-- ---- the loop over the lines

module _ (host now : Host) (known left : Option (List ℕ)) (start w : Standing) (p : Waiting) (a b : Option (List ℕ))
    (s : Stands host now known left start w p a b) where
  -- a line was answered
  pub stands_on : (next : Host) (left' : Option (List ℕ)) (w' : Standing) (p' : Waiting) (line text : List ℕ) (asked c : Option (List ℕ))
      → next ≡ now → Appends b asked (prompt_of p) → TakesLine left left' line → 0 < length line → text ≡ line
      → AnswerWritten now w w' p text asked c p' → Stands host next known left' start w' p' a c
  stands_on next left' w' p' line text asked c same ask takes some e answer =
      let answer' : AnswerWritten host w w' p line asked c p' =
      subst (λ l. AnswerWritten host w w' p l asked c p') e (subst (λ o. AnswerWritten o w w' p text asked c p') s.stays answer) in
      let piece = prompt_of p ++ answer'.0 in
      record {
        stays = same ∙ s.stays;
        lines = s.lines ++ line ∷ [];
        comes = comes_on known left left' s.lines line s.comes takes some;
        out = s.out ++ piece;
        prompted = answers s.lines w p s.out line w' p' answer'.0 s.prompted answer'.2;
        appends = Appends-trans a b c s.out piece s.appends (Appends-trans b asked c (prompt_of p) answer'.0 ask answer'.1);
      }

  -- no line was left
  pub ends : (left' : Option (List ℕ)) (line : List ℕ) (asked c : Option (List ℕ)) (status : ℕ) → Appends b asked (prompt_of p)
      → TakesLine left left' line → length line ≡ 0 → (status ≡ exit_status p) × Appends asked c (farewell p)
      → Ends host known start w a c status
  ends left' line asked c status ask takes none leaves = record {
    lines = s.lines;
    all = all_came known left left' s.lines line s.comes takes none;
    waiting = p;
    out = s.out;
    prompted = s.prompted;
    appends = Appends-trans a b c s.out (prompt_of p ++ farewell p) s.appends
        (Appends-trans b asked c (prompt_of p) (farewell p) ask leaves.1);
    told = leaves.0;
  }

  -- it broke in the next line
  breaks_at : (w' : Standing) (line : List ℕ) → IfSome left (λ text. line ≡ take_through 10 text) → Begun host w p line w'
      → Breaks host known start w'
  breaks_at w' line next r = record {
    left = left;
    lines = s.lines;
    comes = s.comes;
    standing = w;
    waiting = p;
    out = s.out;
    prompted = s.prompted;
    line = line;
    next = next;
    begun = r;
  }

  pub breaks_in : (left' : Option (List ℕ)) (w' : Standing) (line text : List ℕ) → TakesLine left left' line → text ≡ line
      → Begun now w p text w' → Breaks host known start w'
  breaks_in left' w' line text takes e r =
      breaks_at w' line (one_taken left left' line takes)
      (subst (λ l. Begun host w p l w') e (subst (λ o. Begun o w p text w') s.stays r))

  -- .. or before it
  pub breaks : Breaks host known start w
  breaks = let next = next_one left in breaks_at w next.0 next.1 (none_ran host w p next.0)

pub whatever_fails : {T E : Type 0} (r : Result T E) (P : Type 0) → P → IfErr r (λ _. P)
whatever_fails (Ok x) P h = tt
whatever_fails (Err e) P h = h

-- nothing was asked yet
pub stands_first : (host : Host) (known : Option (List ℕ)) (start : Standing) (p : Waiting) (a : Option (List ℕ)) → p ≡ at_first
    → Stands host host known known start start p a a
stands_first host known start p a e = record {
  stays = refl;
  lines = [];
  comes = none_came known;
  out = [];
  prompted = subst (λ x. Prompted host start [] start x []) (sym e) first;
  appends = Appends-nil a;
}
  where
    none_came : (known : Option (List ℕ)) → Comes known known []
    none_came None = tt
    none_came (Some text) = refl
