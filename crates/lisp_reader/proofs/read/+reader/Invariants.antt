use Rattle.std.proofs.Common.{◌≤◌, ◌<◌, ◌+◌, ◌-◌, ◌*◌, length, map}
use Rattle.lisp_data.specs.DatumView.{datum_of}
use Rattle.lisp_reader.proofs.OnReading.{Front}
use Rattle.lisp_reader.proofs.read.+reader.Given as goal

abbrev pub decreases-read_datum : goal.decreases-read_datum
decreases-read_datum l = 3 * l.room + 1

abbrev pub decreases-read_list : goal.decreases-read_list
decreases-read_list l = 3 * l.room

abbrev pub decreases-read_tail : goal.decreases-read_tail
decreases-read_tail l = 3 * l.room + 2

abbrev pub decreases-read_prefixed : goal.decreases-read_prefixed
decreases-read_prefixed l = 3 * l.room

-- the elements so far stand between the parenthesis and here
abbrev pub invariant-read_list-items : goal.invariant-read_list-items
invariant-read_list-items l = record {
  begun : l.at < l.cursor;
  within : l.cursor ≤ length l.bytes;
  front : Front l.bytes l.room l.at l.cursor (map datum_of l.items.items);
}

abbrev pub decreases-read_list-items : goal.decreases-read_list-items
decreases-read_list-items l = length l.bytes - l.cursor
