-- What commands ask for.
use Rattle.std.proofs.Common.{◌≡◌, ◌≢◌, ℕ, List, Bool, Option, Some, None, true, false, drop, refl, sym, subst}
use Rattle.std.specs.Prelude.{is_some}
use Rattle.lisp_data.specs.Datum.{Dat, Dats, cons, list, symbol}
use Rattle.lisp_data.specs.Name.{Name}
use Rattle.lisp_reader.specs.Answers.{Gives, Next, Outcome, a_datum, a_fault, nothing_left}
use Rattle.lisp_reader.proofs.OneAnswer.{Gives-unique}
use Rattle.lisp_tokens.specs.Fault.{Kind, OnFault, offset_of}
use Rattle.lisp_tokens.specs.declared.fault.ReadFault.{ReadFault}
use Rattle.lisp_tokens.specs.declared.fault.ReadFault.TheVariants.{EndInside, StrayClose, BadToken, BadDot, BadHash, TooDeep, NotText, Memory}
use Rattle.clos_commentary.specs.clos_system.clos_world.World.{State}
use Rattle.clos_prompt.specs.Command.{Asks, AsksNone, asks_methods, after_word}
use Rattle.clos_commentary.specs.Forms.{IsRefused}
use Rattle.clos_commentary.specs.Call.{IsCall}

-- a text that has nothing left has no datum next
pub nothing_next : (text : List ℕ) → Gives text nothing_left → (d : Dat) (rest : List ℕ) → ¬ (Next text d rest)
nothing_next text ends d rest n = differ (Gives-unique text (a_datum d rest) nothing_left n ends)
  where
    differ : nothing_left ≡ a_datum d rest → ⊥
    differ e = cc

-- .. nor has one that can't be read
faulty_next : (text : List ℕ) (kind : Kind) (at : List ℕ) → Gives text (a_fault kind at) → (d : Dat) (rest : List ℕ) → ¬ (Next text d rest)
faulty_next text kind at fails d rest n = differ (Gives-unique text (a_datum d rest) (a_fault kind at) n fails)
  where
    differ : a_fault kind at ≡ a_datum d rest → ⊥
    differ e = cc

pub refused_next : (text : List ℕ) (at : ℕ) (fault : ReadFault) → is_some (offset_of fault) ≡ true → IsRefused text at fault
    → (d : Dat) (rest : List ℕ) → ¬ (Next (drop at text) d rest)
refused_next text at (EndInside n) some r = faulty_next (drop at text) _ (drop n text) r.1
refused_next text at (StrayClose n) some r = faulty_next (drop at text) _ (drop n text) r.1
refused_next text at (BadToken n) some r = faulty_next (drop at text) _ (drop n text) r.1
refused_next text at (BadDot n) some r = faulty_next (drop at text) _ (drop n text) r.1
refused_next text at (BadHash n) some r = faulty_next (drop at text) _ (drop n text) r.1
refused_next text at (TooDeep n) some r = faulty_next (drop at text) _ (drop n text) r.1
refused_next text at (NotText n) some r = faulty_next (drop at text) _ (drop n text) r.1
refused_next text at Memory some r = cc

-- a datum that is no call of a generic function asks for none
pub no_call : (w : State) (d : Dat) → ((arguments : Dats) → ¬ (IsCall w d arguments)) → (line rest : List ℕ) → Next (after_word line) d rest
    → AsksNone w line
no_call w d none line rest n form a =
    none a.arguments (a.operator, a.generic, one (Gives-unique (after_word line) (a_datum d rest) (a_datum _ a.rest) n a.call))
  where
    one : a_datum (list (cons (symbol a.operator) a.arguments)) a.rest ≡ a_datum d rest → d ≡ list (cons (symbol a.operator) a.arguments)
    one e = cc
