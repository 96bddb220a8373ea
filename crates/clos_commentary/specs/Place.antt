-- Where a byte of the input stands.
use Rattle.std.specs.Prelude.{ℕ, ◌+◌, ◌-◌, ◌^◌, ◌==◌, ◌++◌, codes, min, Bool, List, fold, if◌then◌else◌}
use Rattle.std.specs.Fmt.{decimal}
use Rattle.std.specs.Int.{is_in_range}
use Rattle.clos_commentary.specs.declared.place.Place.{Place}

-- the first byte of all
abbrev pub first_place : Place
first_place = record { line = 1; column = 1 }

-- lines and columns are counted up to the greatest number of 64 bits
abbrev pub next_count : ℕ → ℕ
next_count n = min (n + 1) (2 ^ 64 - 1)

-- a byte that goes on with a character of UTF-8
abbrev pub continues : ℕ → Bool
continues b = is_in_range 0x80 0xBF b

-- the place after a byte: a newline (10) begins the next line, and a character takes a column, however many bytes it has
abbrev pub after_byte : Place → ℕ → Place
after_byte p b =
    if b == 10 then record { line = next_count p.line; column = 1 }
    else (if continues b then p else record { line = p.line; column = next_count p.column })

abbrev pub place_after : Place → List ℕ → Place
place_after p bytes = fold after_byte p bytes

-- a line and a column as they are told
abbrev pub place_text : Place → List ℕ
place_text p = decimal p.line ++ codes ":" ++ decimal p.column
