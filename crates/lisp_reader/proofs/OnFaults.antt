-- What is so of a fault, from what else is.
use Rattle.std.proofs.Common.{◌≡◌, ℕ, ◌<◌, ◌≤◌, List, length, get_or, drop, sym, subst, arith, true, false}
use Rattle.std.specs.Bool.{⊤}
use Rattle.lisp_reader.specs.Answers.{RefusesEnd}
use Rattle.lisp_tokens.specs.Offsets.{Refuses}
use Rattle.lisp_tokens.specs.Characters.{begins_token}
use Rattle.lisp_tokens.specs.Fault.{Kind, OnRefusal}
use Rattle.lisp_tokens.specs.Front.{Lacks}
use Rattle.lisp_tokens.specs.Gaps.{Gaps}
use Rattle.lisp_tokens.specs.Memory.{Takes}
use Rattle.lisp_tokens.specs.Reading.{Fails, EndFails, NoDatum, closes, at_front, no_close}
use Rattle.lisp_tokens.specs.declared.fault.ReadFault.{ReadFault}
use Rattle.lisp_tokens.specs.declared.fault.ReadFault.TheVariants.{EndInside, StrayClose, BadToken, BadDot, BadHash, TooDeep, NotText, Memory}
use Rattle.lisp_reader.proofs.OnReading.{NoDatum-token}

pub OnRefusal-map : (fault : ReadFault) (P Q : Kind → ℕ → Type 0) (M N : Type 0) → ((kind : Kind) (n : ℕ) → P kind n → Q kind n) → (M → N) → OnRefusal fault P M → OnRefusal fault Q N
OnRefusal-map (EndInside n) P Q M N go run_out f = go _ _ f
OnRefusal-map (StrayClose n) P Q M N go run_out f = go _ _ f
OnRefusal-map (BadToken n) P Q M N go run_out f = go _ _ f
OnRefusal-map (BadDot n) P Q M N go run_out f = go _ _ f
OnRefusal-map (BadHash n) P Q M N go run_out f = go _ _ f
OnRefusal-map (TooDeep n) P Q M N go run_out f = go _ _ f
OnRefusal-map (NotText n) P Q M N go run_out f = go _ _ f
OnRefusal-map Memory P Q M N go run_out f = run_out f

-- a fault within the text that stands somewhere
abbrev Within : List ℕ → (Kind → List ℕ → Type 0) → Kind → ℕ → Type 0
Within bytes F kind n = (n ≤ length bytes) × F kind (drop n bytes)

-- a fault further in is a fault of the whole, and memory that runs out there
pub OnRefusal-lift : (bytes : List ℕ) (F G : Kind → List ℕ → Type 0) (M N : Type 0) (fault : ReadFault) → ((kind : Kind) (rest : List ℕ) → F kind rest → G kind rest) → (M → N) → OnRefusal fault (Within bytes F) M → OnRefusal fault (Within bytes G) N
OnRefusal-lift bytes F G M N fault lift run_out f =
    OnRefusal-map fault (Within bytes F) (Within bytes G) M N (λ kind n p. (p.0, lift kind (drop n bytes) p.1)) run_out f

-- where no datum begins
pub Refuses-front : (bytes : List ℕ) (room at : ℕ) (fault : ReadFault) → at ≤ length bytes → Lacks bytes at fault → Refuses bytes room at fault
Refuses-front bytes room at fault within f =
    OnRefusal-map fault (λ kind n. (n ≡ at) × NoDatum (drop at bytes) kind) (Within bytes (Fails room (drop at bytes))) ⊥ (Takes room (drop at bytes))
    (λ kind n p. (omega (arith, p.0, within), subst (λ (k : ℕ). Fails room (drop at bytes) kind (drop k bytes)) (sym p.0) (at_front room (drop at bytes) kind p.1))) (λ e. absurd e) f

pub RefusesEnd-front : (bytes : List ℕ) (from at : ℕ) (fault : ReadFault) → at ≤ length bytes → closes (drop at bytes) ≡ false → Gaps (drop from bytes) (drop at bytes) → Lacks bytes at fault → RefusesEnd bytes from fault
RefusesEnd-front bytes from at fault within unclosed gaps f =
    OnRefusal-map fault (λ kind n. (n ≡ at) × NoDatum (drop at bytes) kind) (Within bytes (EndFails (drop from bytes))) ⊥ ⊤
    (λ kind n p. (omega (arith, p.0, within), subst (λ (k : ℕ). EndFails (drop from bytes) kind (drop k bytes)) (sym p.0) (no_close (drop from bytes) (drop at bytes) kind gaps unclosed p.1))) (λ e. tt) f

-- where a token stands that is no datum
pub RefusesEnd-token : (bytes : List ℕ) (from at : ℕ) (fault : ReadFault) → at < length bytes → begins_token (get_or bytes at 0) ≡ true → closes (drop at bytes) ≡ false → Gaps (drop from bytes) (drop at bytes) → Refuses bytes 0 at fault → RefusesEnd bytes from fault
RefusesEnd-token bytes from at fault within begins unclosed gaps f =
    OnRefusal-lift bytes (Fails 0 (drop at bytes)) (EndFails (drop from bytes)) (Takes 0 (drop at bytes)) ⊤ fault
    (λ kind rest fails. let p = NoDatum-token bytes 0 at kind rest within begins fails in subst (EndFails (drop from bytes) kind) (sym p.1) (no_close (drop from bytes) (drop at bytes) kind gaps unclosed p.0)) (λ e. tt) f
