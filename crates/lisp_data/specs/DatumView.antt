-- The datum that a `Datum` stands for, and the list that a link does.
use Rattle.lisp_data.specs.Datum.{Dat, integer, symbol, string, list, dotted, method, Dats, nil, cons}
use Rattle.lisp_data.specs.declared.datum.Datum.{Datum}
use Rattle.lisp_data.specs.declared.datum.Datum.TheVariants.{Int, Sym, Str, List, Dotted, Method}
use Rattle.lisp_data.specs.declared.datum.Link.{Link}
use Rattle.lisp_data.specs.declared.datum.Link.TheVariants.{End, More}

abbrev pub datum_of : Datum → Dat
datum_of (Int n) = integer n
datum_of (Sym name) = symbol name
datum_of (Str text) = string text
datum_of (List items) = list items
datum_of (Dotted dot) = dotted dot.front dot.last
datum_of (Method id) = method id.0

abbrev pub data_of : Link → Dats
data_of End = nil
data_of (More pair) = cons (datum_of pair.value.head) pair.value.tail
