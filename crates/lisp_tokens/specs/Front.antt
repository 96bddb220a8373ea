-- What begins at an offset of a text, as `front_at` tells it.
use Rattle.std.specs.Prelude.{◌≡◌, ℕ, ◌+◌, ◌≤◌, ◌<◌, List, length, drop, slice_index, true}
use Rattle.lisp_tokens.specs.Characters.{begins_token}
use Rattle.lisp_tokens.specs.Fault.{OnRefusal}
use Rattle.lisp_tokens.specs.Prefix.{HasPrefix}
use Rattle.lisp_tokens.specs.Reading.{NoDatum}
use Rattle.lisp_tokens.specs.declared.fault.ReadFault.{ReadFault}
use Rattle.lisp_tokens.specs.declared.front.Front.{Front}
use Rattle.lisp_tokens.specs.declared.front.Front.TheVariants.{Token, String, List as AList, Prefixed, Nothing}
use Rattle.lisp_tokens.specs.declared.front.Prefix.{Prefix}

-- this prefix
abbrev pub BeginsPrefix : List ℕ → ℕ → Prefix → Type 0
BeginsPrefix bytes at prefix =
    (0 < prefix.len) × (at + prefix.len ≤ length bytes) × HasPrefix (drop at bytes) prefix.operator.now (drop (at + prefix.len) bytes)

-- no datum, and its fault stands there
abbrev pub Lacks : List ℕ → ℕ → ReadFault → Type 0
Lacks bytes at fault = OnRefusal fault (λ kind n. (n ≡ at) × NoDatum (drop at bytes) kind) ⊥

abbrev pub Begins : List ℕ → ℕ → Front → Type 0
Begins bytes at Token = (at < length bytes) × (begins_token (slice_index bytes at) ≡ true)
Begins bytes at String = (at < length bytes) × (slice_index bytes at ≡ 34)
Begins bytes at AList = (at < length bytes) × (slice_index bytes at ≡ 40)
Begins bytes at (Prefixed prefix) = BeginsPrefix bytes at prefix
Begins bytes at (Nothing fault) = Lacks bytes at fault
