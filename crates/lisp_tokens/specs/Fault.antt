-- The kinds of faults, with the number and the place of a fault.
use Rattle.std.specs.Prelude.{ℕ, Option, Some, None, ⊤}
use Rattle.lisp_tokens.specs.declared.fault.ReadFault.{ReadFault}
use Rattle.lisp_tokens.specs.declared.fault.ReadFault.TheVariants.{EndInside, StrayClose, BadToken, BadDot, BadHash, TooDeep, NotText, Memory}

-- why a text can't be read, apart from memory
pub data Kind : Type 0 where
  end_inside : Kind
  stray_close : Kind
  bad_token : Kind
  bad_dot : Kind
  bad_hash : Kind
  too_deep : Kind
  not_text : Kind

-- what is so of the kind and the offset of a fault, and what is so where memory ran out
abbrev pub OnRefusal : ReadFault → (Kind → ℕ → Type 0) → Type 0 → Type 0
OnRefusal (EndInside n) P M = P end_inside n
OnRefusal (StrayClose n) P M = P stray_close n
OnRefusal (BadToken n) P M = P bad_token n
OnRefusal (BadDot n) P M = P bad_dot n
OnRefusal (BadHash n) P M = P bad_hash n
OnRefusal (TooDeep n) P M = P too_deep n
OnRefusal (NotText n) P M = P not_text n
OnRefusal Memory P M = M

-- the same, where nothing is promised if memory ran out
abbrev pub OnFault : ReadFault → (Kind → ℕ → Type 0) → Type 0
OnFault fault P = OnRefusal fault P ⊤

abbrev pub number_of : ReadFault → ℕ
number_of (EndInside n) = 1
number_of (StrayClose n) = 2
number_of (BadToken n) = 3
number_of (BadDot n) = 4
number_of (BadHash n) = 5
number_of (TooDeep n) = 6
number_of (NotText n) = 7
number_of Memory = 8

abbrev pub offset_of : ReadFault → Option ℕ
offset_of (EndInside n) = Some n
offset_of (StrayClose n) = Some n
offset_of (BadToken n) = Some n
offset_of (BadDot n) = Some n
offset_of (BadHash n) = Some n
offset_of (TooDeep n) = Some n
offset_of (NotText n) = Some n
offset_of Memory = None
