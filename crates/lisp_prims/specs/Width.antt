-- How large integers may be (HyperSpec 12.1.4.1.1 leaves it to the implementation).
use Rattle.std.specs.Prelude.{ℤ, pos, negsuc, ◌^◌, Bool, nat_lt, if◌then◌else◌, Result, Ok, Err}
use Rattle.std.specs.Int.{Width, w64}
use mir.Val.{hbits}
use Rattle.lisp_prims.specs.Fault.{Condition, integer_range}

-- the width of an integer with its sign
abbrev pub integer_width : Width
integer_width = w64

-- whether it is an integer of that width
abbrev pub fits : ℤ → Bool
fits (pos n) = nat_lt n (2 ^ hbits integer_width)
fits (negsuc n) = nat_lt n (2 ^ hbits integer_width)

-- a result, where it is within that width
abbrev pub in_range : ℤ → Result ℤ Condition
in_range n = if fits n then Ok n else Err integer_range
