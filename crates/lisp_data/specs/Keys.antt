-- Names, values and data as keys of maps: the tests behind `==`, and what each feeds a hasher.
use Rattle.std.specs.Prelude.{ℕ, List, Bool}
use Rattle.std.specs.Hash as fed
use Rattle.std.specs.Hash.{HashWrites}
use Rattle.std.specs.Hash.FoldHasher as folding
use Rattle.lisp_data.specs.Name.{Name}
use Rattle.lisp_data.specs.Value as of_value
use Rattle.lisp_data.specs.Value.{Val}
use Rattle.lisp_data.specs.inner.ValueCode.{value_code}
use Rattle.lisp_data.specs.Datum as of_datum
use Rattle.lisp_data.specs.Datum.{Dat}
use Rattle.lisp_data.specs.inner.DatumCode.{datum_code}
use Rattle.lisp_data.specs.Same.{same}

-- whether both are one value
abbrev pub same_value : Val → Val → Bool
same_value = same value_code

-- whether both are one datum
abbrev pub same_datum : Dat → Dat → Bool
same_datum = same datum_code

-- the hash that a name keeps of its characters
abbrev pub hash_of : List ℕ → ℕ
hash_of text = folding.finish (folding.write folding.initial text)

-- a name feeds the hash that it keeps
abbrev pub name_writes : Name → HashWrites
name_writes n = fed.u64 (hash_of n.text)

-- an atom feeds its content, a list its length
abbrev pub value_writes : Val → HashWrites
value_writes (of_value.integer n) = fed.i64 n
value_writes (of_value.symbol s) = name_writes s
value_writes (of_value.string s) = fed.str s
value_writes (of_value.list l) = fed.u64 (of_value.length_of l)
value_writes (of_value.class n) = fed.u64 n
value_writes (of_value.generic n) = fed.u64 n
value_writes (of_value.method n) = fed.u64 n
value_writes (of_value.instance n) = fed.u64 n

abbrev pub datum_writes : Dat → HashWrites
datum_writes (of_datum.integer n) = fed.i64 n
datum_writes (of_datum.symbol s) = name_writes s
datum_writes (of_datum.string s) = fed.str s
datum_writes (of_datum.list l) = fed.u64 (of_datum.length_of l)
datum_writes (of_datum.dotted l d) = fed.u64 (of_datum.length_of l)
datum_writes (of_datum.method n) = fed.u64 n
