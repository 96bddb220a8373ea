-- The answer at an offset of a text.
use Rattle.std.proofs.Common.{◌≡◌, ◌≢◌, ℕ, ◌<◌, ◌≤◌, List, [], length, drop, refl, ap, arith}
use Rattle.std.proofs.lemmas.List.{length-drop}
use Rattle.lisp_reader.specs.Answers.{NextFails, unfinished, in_datum, most_open, outermost}
use Rattle.lisp_tokens.specs.Offsets.{Refuses}
use Rattle.lisp_tokens.specs.Fault.{OnFault}
use Rattle.lisp_tokens.specs.Gaps.{Gaps}
use Rattle.lisp_tokens.specs.declared.fault.ReadFault.{ReadFault}
use Rattle.lisp_tokens.specs.declared.fault.ReadFault.TheVariants.{EndInside, StrayClose, BadToken, BadDot, BadHash, TooDeep, NotText, Memory}

pub outermost-other : (fault : ReadFault) (start : ℕ) → ((n : ℕ) → fault ≡ EndInside n → ⊥) → fault ≡ outermost fault start
outermost-other (EndInside n) start other = absurd (other n refl)
outermost-other (StrayClose n) start other = refl
outermost-other (BadToken n) start other = refl
outermost-other (BadDot n) start other = refl
outermost-other (BadHash n) start other = refl
outermost-other (TooDeep n) start other = refl
outermost-other (NotText n) start other = refl
outermost-other Memory start other = refl

some-left : (bytes : List ℕ) (start : ℕ) → start < length bytes → drop start bytes ≢ []
some-left bytes start within none = absurd (omega (arith, length-drop start bytes, ap length none))

-- the fault of the datum after the gaps is that of the text
pub NextFails-datum : (bytes : List ℕ) (from start : ℕ) (fault : ReadFault) → start < length bytes → Gaps (drop from bytes) (drop start bytes) → Refuses bytes most_open start fault → OnFault (outermost fault start) (λ kind n. (n ≤ length bytes) × NextFails (drop from bytes) kind (drop n bytes))
NextFails-datum bytes from start (EndInside n) within gaps f = (omega arith, unfinished _ _ _ gaps (some-left bytes start within) f.1)
NextFails-datum bytes from start (StrayClose n) within gaps f = (f.0, in_datum _ _ _ _ gaps (some-left bytes start within) f.1 (λ e. cc))
NextFails-datum bytes from start (BadToken n) within gaps f = (f.0, in_datum _ _ _ _ gaps (some-left bytes start within) f.1 (λ e. cc))
NextFails-datum bytes from start (BadDot n) within gaps f = (f.0, in_datum _ _ _ _ gaps (some-left bytes start within) f.1 (λ e. cc))
NextFails-datum bytes from start (BadHash n) within gaps f = (f.0, in_datum _ _ _ _ gaps (some-left bytes start within) f.1 (λ e. cc))
NextFails-datum bytes from start (TooDeep n) within gaps f = (f.0, in_datum _ _ _ _ gaps (some-left bytes start within) f.1 (λ e. cc))
NextFails-datum bytes from start (NotText n) within gaps f = (f.0, in_datum _ _ _ _ gaps (some-left bytes start within) f.1 (λ e. cc))
NextFails-datum bytes from start Memory within gaps f = tt
