-- Writers that keep whether a line has ended.
use Rattle.std.specs.Prelude.{ℕ, ◌-◌, ◌&&◌, Bool, true, false, not, List, ◌∷◌, Option, Some, None, if◌then◌else◌, length, drop, nat_lt}
use Rattle.clos_ending.specs.clos_system.clos_transcript.Told.{ends_line}
use Rattle.clos_program.specs.declared.output.Output.{Output}

abbrev pub is_same : Bool → Bool → Bool
is_same true b = b
is_same false b = not b

-- whether `fresh` says if a line has ended with the last `count` of these bytes
abbrev pub is_lined : ℕ → Bool → List ℕ → Bool
is_lined count fresh all = not (nat_lt (length all) count) && is_same fresh (ends_line (drop (length all - count) all))

-- The bytes that a writer holds, and before them the number of those that were there before the last `count` came. They are known
-- as long as it is kept whether a line has ended with these.
abbrev pub lined : ℕ → Bool → Option (List ℕ) → Option (List ℕ)
lined count fresh None = None
lined count fresh (Some all) = if is_lined count fresh all then Some ((length all - count) ∷ all) else None

-- those of an output
abbrev pub lined_of : {W : Type 0} → (W → Option (List ℕ)) → Output W → Option (List ℕ)
lined_of contents o = lined o.count o.fresh (contents o.writer)
